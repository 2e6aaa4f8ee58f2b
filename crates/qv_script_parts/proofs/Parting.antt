-- Parts of commands by their items.
use Rattle.std.proofs.Common.{◌≡◌, ◌≤◌, ◌<◌, ◌+◌, ◌^◌, ℕ, nat_lt, true, false, Bool, Option, Some, None, List, [], ◌∷◌, ◌++◌, length, slice_get, get_or, refl, sym, ap, subst, ◌∙◌, append_assoc, Ok, Err, arith}
use Rattle.std.specs.Prelude.{Result, option_and_then}
use Rattle.std.proofs.lemmas.List.{append-nil}
use Rattle.qv_text.specs.declared.kinds.TokenKind.{TokenKind}
use Rattle.qv_text.specs.declared.kinds.TokenKind.TheVariants.{Text, Numeral}
use Rattle.qv_sexpr.specs.declared.items.Item.{Item}
use Rattle.qv_sexpr.specs.declared.items.ItemKind.TheVariants.{Atom, Open}
use Rattle.qv_sexpr.specs.declared.items.Expr.{Expr}
use Rattle.qv_sexpr.specs.Script.{atom, list, none, also}
use Rattle.qv_sexpr.specs.Script.{Tree as Written, Trees as Writtens}
use Rattle.qv_sexpr.specs.Items.{Stands, StandAll, IsExpr, Begins}
use Rattle.qv_sexpr.specs.Copying.{EndsBefore}
use Rattle.qv_sexpr.proofs.Standing.{stands_lt, stand_all_le}
use Rattle.qv_sexpr.proofs.Copies.{begun}
use Rattle.qv_elab_defs.specs.Tokens.{items, symbol_of, keyword_of, number_of, small_number_of}
use Rattle.qv_elab_items.specs.Flat.{name_in, keyword_of_kind, keyword_in, numeral_in}
use Rattle.qv_elab_items.proofs.Slices.{item_of, paren_of, text-of, name-stands, list-item, read-item}
use Rattle.qv_elab_items.proofs.Attributed.{next-before, next-at, kinds}
use Rattle.qv_elab_items.proofs.Within.{item-at}
use Rattle.qv_script_defs.specs.declared.faults.ScriptFault.{ScriptFault}
use Rattle.qv_script_defs.specs.declared.faults.ScriptFault.TheVariants.{At}
use Rattle.qv_script_defs.specs.declared.faults.ScriptKind.TheVariants.{Form, Literal}
use Rattle.qv_script_defs.specs.Parts.{string_text, string_of, count_of}
use Rattle.qv_script_parts.specs.Parted.{told_by, told_number, string_of_kind, string_in, is_numeral, is_empty_list, inside_of}
use Rattle.qv_script_parts.specs.Parted.{IsPart, AreParts}

some-is : (a b : Item) → ◌≡◌ {A = Option Item} (Some a) (Some b) → a ≡ b
some-is a b h = cc

string-kinds : (k : TokenKind) (t : List ℕ) → string_of_kind k (Some t) ≡ string_text k t
string-kinds Text t = refl
string-kinds _ t = refl

module _ (its : List Item) (text : List ℕ) (i : ℕ) where
  pub part-name : (e : Written) (j : ℕ) (x : Item) → Stands its text i e j → slice_get its i ≡ Some x → name_in text x ≡ symbol_of e
  part-name (atom l) j x h e =
      let same = some-is (item_of l h.0.start h.0.end) x (sym h.0.item ∙ e) in
      ap (name_in text) (sym same) ∙ name-stands its text i l h.0
  part-name (list p inside q) j x h e =
      let same = some-is (paren_of (Open h.0) p h.1.0) x (sym h.1.1 ∙ e) in
      ap (name_in text) (sym same)

  pub part-keyword : (e : Written) (j : ℕ) (x : Item) → Stands its text i e j → slice_get its i ≡ Some x → keyword_in text x ≡ keyword_of e
  part-keyword (atom l) j x h e =
      let same = some-is (item_of l h.0.start h.0.end) x (sym h.0.item ∙ e) in
      ap (keyword_in text) (sym same) ∙ ap (keyword_of_kind l.kind) (text-of its text i l h.0) ∙ kinds l.kind l.text
  part-keyword (list p inside q) j x h e =
      let same = some-is (paren_of (Open h.0) p h.1.0) x (sym h.1.1 ∙ e) in
      ap (keyword_in text) (sym same)

  pub part-string : (e : Written) (j : ℕ) (x : Item) → Stands its text i e j → slice_get its i ≡ Some x → string_in text x ≡ string_of e
  part-string (atom l) j x h e =
      let same = some-is (item_of l h.0.start h.0.end) x (sym h.0.item ∙ e) in
      ap (string_in text) (sym same) ∙ ap (string_of_kind l.kind) (text-of its text i l h.0) ∙ string-kinds l.kind l.text
  part-string (list p inside q) j x h e =
      let same = some-is (paren_of (Open h.0) p h.1.0) x (sym h.1.1 ∙ e) in
      ap (string_in text) (sym same)

  -- what a number is told as
  no-number : (k : TokenKind) (place at : ℕ) (t : List ℕ) → is_numeral (Atom k) ≡ false → Err (At place Form) ≡ told_number place (atom (record { kind = k; place = at; text = t }))
  no-number Numeral place at t f = absurd (cc)
  no-number _ place at t f = refl

  pub part-no-number : (place : ℕ) (e : Written) (j : ℕ) (x : Item) → Stands its text i e j → slice_get its i ≡ Some x → is_numeral x.kind ≡ false → Err (At place Form) ≡ told_number place e
  part-no-number place (atom l) j x h e f =
      let same = some-is (item_of l h.0.start h.0.end) x (sym h.0.item ∙ e) in
      no-number l.kind place l.place l.text (ap (λ (y : Item). is_numeral y.kind) same ∙ f)
  part-no-number place (list p inside q) j x h e f = refl

  abbrev pub told_by_number : ℕ → Option ℕ → Result ℕ ScriptFault
  told_by_number place (Some n) = Ok n
  told_by_number place None = Err (At place Literal)

  small : (place at : ℕ) (t : List ℕ) → told_by_number at (small_number_of t) ≡ told_number place (atom (record { kind = Numeral; place = at; text = t }))
  small place at t = go (nat_lt (number_of 10 t) (2 ^ 128)) refl
    where
      go : (b : Bool) → nat_lt (number_of 10 t) (2 ^ 128) ≡ b → told_by_number at (small_number_of t) ≡ told_number place (atom (record { kind = Numeral; place = at; text = t }))
      go true e = rw e refl
      go false e = rw e refl

  number : (k : TokenKind) (place at : ℕ) (t : List ℕ) → is_numeral (Atom k) ≡ true → told_by_number at (small_number_of t) ≡ told_number place (atom (record { kind = k; place = at; text = t }))
  number Numeral place at t f = small place at t
  number _ place at t f = absurd (cc)

  pub part-number : (place : ℕ) (e : Written) (j : ℕ) (x : Item) (r : Option ℕ) → Stands its text i e j → slice_get its i ≡ Some x → is_numeral x.kind ≡ true → r ≡ option_and_then small_number_of (numeral_in text x) → told_by_number x.place r ≡ told_number place e
  part-number place (atom l) j x r h e f g =
      let same = some-is (item_of l h.0.start h.0.end) x (sym h.0.item ∙ e) in
      let kind : is_numeral (Atom l.kind) ≡ true = ap (λ (y : Item). is_numeral y.kind) same ∙ f in
      ap (told_by_number x.place) (g ∙ ap (λ y. option_and_then small_number_of (numeral_in text y)) (sym same) ∙ digits l.kind kind)
      ∙ ap (λ (y : Item). told_by_number y.place (small_number_of l.text)) (sym same)
      ∙ number l.kind place l.place l.text kind
    where
      digits : (k : TokenKind) → is_numeral (Atom k) ≡ true → option_and_then small_number_of (numeral_in text (record { kind = Atom k; place = l.place; start = h.0.start; end = h.0.end })) ≡ small_number_of l.text
      digits Numeral f = ap (option_and_then small_number_of) (text-of its text i l h.0)
      digits _ f = absurd (cc)
  part-number place (list p inside q) j x r h e f g =
      let same = some-is (paren_of (Open h.0) p h.1.0) x (sym h.1.1 ∙ e) in
      let wrong : is_numeral (Open h.0) ≡ true = ap (λ (y : Item). is_numeral y.kind) same ∙ f in
      absurd (cc)

-- the item that is read from items that are these
pub item-there : (its xs : List Item) (i : ℕ) (x : Item) → xs ≡ its → i < length xs → x ≡ get_or xs i x → slice_get its i ≡ Some x
item-there its xs i x same lt e = ap (λ ys. slice_get ys i) (sym same) ∙ item-at xs i x lt e

-- lists that are empty, and others
module _ (its : List Item) (text : List ℕ) (i : ℕ) where
  pub empty-list : (e : Written) (j : ℕ) (x : Item) (n : ℕ) → Stands its text i e j → slice_get its i ≡ Some x → x.kind ≡ Open n → n ≡ i + 1 → Some true ≡ is_empty_list e
  empty-list e j x n h there k same = let l = list-item its text i e j x n h there k in go l.0 l.3 ∙ sym (ap is_empty_list l.2)
    where
      go : (inside : Writtens) → StandAll its text (i + 1) inside n → Some true ≡ is_empty_list (list x.place inside 0)
      go none s = refl
      go (also f fs) s = absurd (omega (arith, same, stands_lt its text (i + 1) f s.0 s.1, stand_all_le its text s.0 fs n s.2))

  pub filled-list : (e : Written) (j : ℕ) (x : Item) (n : ℕ) → Stands its text i e j → slice_get its i ≡ Some x → x.kind ≡ Open n → (n ≡ i + 1 → ⊥) → Some false ≡ is_empty_list e
  filled-list e j x n h there k other = let l = list-item its text i e j x n h there k in go l.0 l.3 ∙ sym (ap is_empty_list l.2)
    where
      go : (inside : Writtens) → StandAll its text (i + 1) inside n → Some false ≡ is_empty_list (list x.place inside 0)
      go none s = absurd (other s)
      go (also f fs) s = refl

  pub other-list : (e : Written) (j : ℕ) (x : Item) → Stands its text i e j → slice_get its i ≡ Some x → ((n : ℕ) → x.kind ≡ Open n → ⊥) → None ≡ is_empty_list e
  other-list (atom l) j x h there other = refl
  other-list (list p inside q) j x h there other =
      let same = some-is (paren_of (Open h.0) p h.1.0) x (sym h.1.1 ∙ there) in
      absurd (other h.0 (sym (ap (λ (y : Item). y.kind) same)))

-- where a loop over the parts of a list is
abbrev pub PartsFor : List Item → List ℕ → List ℕ → List Written → Type 0
PartsFor its text [] [] = Unit {0}
PartsFor its text (at ∷ ats) (e ∷ es) = ((to : ℕ) × Stands its text at e to) × PartsFor its text ats es
PartsFor its text _ _ = ⊥

abbrev pub PartsLeft : List Item → List ℕ → ℕ → ℕ → ℕ → List ℕ → Type 0
PartsLeft its text from at to ats =
    (within : Writtens) → StandAll its text from within to → (before : List Written) × (rest : Writtens) × (items within ≡ before ++ items rest) × PartsFor its text ats before × StandAll its text at rest to

pub parts-here : (its : List Item) (text : List ℕ) (from to : ℕ) → PartsLeft its text from from to []
parts-here its text from to within h = ([], within, refl, tt, h)

parts-more : (its : List Item) (text : List ℕ) (ats : List ℕ) (es : List Written) (at : ℕ) (e : Written) (to : ℕ) → Stands its text at e to → PartsFor its text ats es → PartsFor its text (ats ++ at ∷ []) (es ++ e ∷ [])
parts-more its text [] [] at e to s h = ((to, s), tt)
parts-more its text [] (f ∷ es) at e to s h = absurd h
parts-more its text (a ∷ ats) [] at e to s h = absurd h
parts-more its text (a ∷ ats) (f ∷ es) at e to s h = (h.0, parts-more its text ats es at e to s h.1)

pub parts-onward : (its : List Item) (text : List ℕ) (from at to : ℕ) (ats : List ℕ) → PartsLeft its text from at to ats → at < to → (next : ℕ) → EndsBefore its at next → PartsLeft its text from next to (ats ++ at ∷ [])
parts-onward its text from at to ats left lt next ends within h =
    let l = left within h in
    let n = next-at its text at to l.1 l.4 lt next ends in (
      l.0 ++ n.0 ∷ [],
      n.1,
      l.2 ∙ ap (λ (q : Writtens). l.0 ++ items q) n.2 ∙ sym (append_assoc l.0 (n.0 ∷ []) (items n.1)),
      parts-more its text ats l.0 at n.0 next n.3 l.3,
      n.4,
    )

pub nothing-left : (its : List Item) (text : List ℕ) (at to : ℕ) (rest : Writtens) → StandAll its text at rest to → to ≤ at → rest ≡ none
nothing-left its text at to none h le = refl
nothing-left its text at to (also f fs) h le =
    let lt = stands_lt its text at f h.0 h.1 in
    let up = stand_all_le its text h.0 fs to h.2 in
    absurd (omega (arith, lt, up, le))

pub parts-end : (its : List Item) (text : List ℕ) (from at to : ℕ) (ats : List ℕ) → PartsLeft its text from at to ats → to ≤ at → (within : Writtens) → StandAll its text from within to → PartsFor its text ats (items within)
parts-end its text from at to ats left le within h =
    let l = left within h in
    let none_left = nothing-left its text at to l.1 l.4 le in
    subst (λ (es : List Written). PartsFor its text ats es) (sym (l.2 ∙ ap (λ (q : Writtens). l.0 ++ items q) none_left ∙ append-nil l.0)) l.3

pub are-parts : (expr : Expr) (ats : List ℕ) (es : List Written) → PartsFor expr.items.items expr.text.items ats es → AreParts expr ats es
are-parts expr [] [] h = tt
are-parts expr [] (e ∷ es) h = absurd h
are-parts expr (a ∷ ats) [] h = absurd h
are-parts expr (a ∷ ats) (e ∷ es) h = (h.0, are-parts expr ats es h.1)

pub many-parts : (place : ℕ) (expr : Expr) (ats : List ℕ) (es : List Written) → 2 ≤ length ats → AreParts expr ats es → ◌≡◌ {A = Result ℕ ScriptFault} (Err (At place Form)) (told_by (count_of place es))
many-parts place expr [] es le h = absurd (omega (arith, le))
many-parts place expr (a ∷ []) es le h = absurd (omega (arith, le))
many-parts place expr (a ∷ b ∷ ats) [] le h = absurd h
many-parts place expr (a ∷ b ∷ ats) (e ∷ []) le h = absurd h.1
many-parts place expr (a ∷ b ∷ ats) (e ∷ f ∷ es) le h = refl

-- what a loop over parts asks
module _ (expr : Expr) (at close : ℕ) (item : Item) (is_expr : IsExpr expr) (begins : Begins expr at) (d : item ≡ get_or expr.items.items at item) (k : item.kind ≡ Open close) where
  pub part-list : (e : Written) (to : ℕ) → Stands expr.items.items expr.text.items at e to → (inside : Writtens) × (q : ℕ) × (e ≡ list item.place inside q) × StandAll expr.items.items expr.text.items (at + 1) inside close × (at + 1 ≤ close) × (close < length expr.items.items)
  part-list e to h = list-item expr.items.items expr.text.items at e to item close h (read-item expr.items.items at begins.0 item begins.1 d) k

  pub the-list : (inside : Writtens) × (q : ℕ) × StandAll expr.items.items expr.text.items (at + 1) inside close × (at + 1 ≤ close) × (close < length expr.items.items)
  the-list = let b = begun expr at is_expr begins in let l = part-list b.0 b.1 b.2 in (l.0, l.1, l.3, l.4, l.5)

  pub next-part : (next : ℕ) (ats : List ℕ) → PartsLeft expr.items.items expr.text.items (at + 1) next close ats → next < close → (m : ℕ) × (m ≤ length expr.items.items) × (next < m) × EndsBefore expr.items.items next m
  next-part next ats left lt =
      let l = left the-list.0 the-list.2 in
      next-before expr.items.items expr.text.items next close l.1 l.4 lt

  pub next-rises : (next : ℕ) (ats : List ℕ) → PartsLeft expr.items.items expr.text.items (at + 1) next close ats → next < close → (behind : ℕ) → EndsBefore expr.items.items next behind → (next < behind) × (behind ≤ close)
  next-rises next ats left lt behind ends =
      let l = left the-list.0 the-list.2 in
      let n = next-at expr.items.items expr.text.items next close l.1 l.4 lt behind ends in
      (n.5, n.6)

  pub all-parts : (next : ℕ) (ats : List ℕ) → PartsLeft expr.items.items expr.text.items (at + 1) next close ats → close ≤ next → (e : Written) → IsPart expr at e → AreParts expr ats (inside_of e)
  all-parts next ats left le e p =
      let l = part-list e p.0 p.1 in
      are-parts expr ats (inside_of e) (subst (λ (x : Written). PartsFor expr.items.items expr.text.items ats (inside_of x)) (sym l.2) (parts-end expr.items.items expr.text.items (at + 1) next close ats left le l.0 l.3))
