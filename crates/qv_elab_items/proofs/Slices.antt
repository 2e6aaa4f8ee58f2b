-- The items of expressions, one after another.
use Rattle.std.proofs.Common.{◌≡◌, ◌≤◌, ◌<◌, ◌+◌, ◌-◌, ◌&&◌, ℕ, zero, suc, nat_le, true, false, cond, Option, Some, None, List, [], ◌∷◌, length, take, drop, slice_get, get_or, refl, sym, ap, subst, ◌∙◌, add-one, drop-cons, arith}
use Rattle.std.specs.Prelude.{option_map, option_and_then, is_some}
use Rattle.std.specs.List.{slice_range}
use Rattle.std.proofs.lemmas.Bool.Decides.{nat_tests}
use Rattle.qv_text.specs.declared.kinds.TokenKind.{TokenKind}
use Rattle.qv_text.specs.declared.kinds.TokenKind.TheVariants.{Numeral}
use Rattle.qv_text.specs.Reading.{Lexeme}
use Rattle.qv_sexpr.specs.declared.items.Item.{Item}
use Rattle.qv_sexpr.specs.declared.items.ItemKind.{ItemKind}
use Rattle.qv_sexpr.specs.declared.items.ItemKind.TheVariants.{Atom, Open, Close}
use Rattle.qv_sexpr.specs.Script.{atom, list, none, also}
use Rattle.qv_sexpr.specs.Script.{Tree as Expr, Trees as Exprs}
use Rattle.qv_sexpr.specs.Items.{IsAtomAt, Stands, StandAll}
use Rattle.qv_sexpr.proofs.Standing.{stands_lt, stand_all_le}
use Rattle.std.proofs.lemmas.Option.{slice_get_within, get_or_from_slice_get}
use Rattle.qv_elab_defs.specs.Tokens.{items, name_of_token, symbol_of, is_symbol}
use Rattle.qv_elab_defs.specs.Sorts.{sort_named, indexed_sort, listed_sort, read_sort}
use Rattle.qv_elab_defs.specs.Tokens.{number_at as number_of_token}
use Rattle.qv_elab_defs.specs.Shapes.{Construct, Indexed, Application, construct_of, numerals_of, indexed_name, indexed_with}
use Rattle.qv_elab_items.specs.Flat.{text_in, name_in, numeral_of_kind, number_at, numbers_in, indexed_in, construct_in, construct_for, sort_by, sort_in}

pub slice-first : (xs : List Item) (i n : ℕ) (x : Item) → slice_get xs i ≡ Some x → i < n → slice_range xs i n ≡ x ∷ slice_range xs (i + 1) n
slice-first xs i n x e lt =
    let first : drop i xs ≡ x ∷ drop (suc i) xs = drop-cons xs i x (slice_get_within xs i x e) ∙ ap (λ y. y ∷ drop (suc i) xs) (get_or_from_slice_get xs i x x e) in
    let one : n - i ≡ suc (n - suc i) = omega (arith, lt) in
    ap (λ ys. take (n - i) ys) first ∙ ap (λ m. take m (x ∷ drop (suc i) xs)) one ∙ ap (λ j. x ∷ take (n - j) (drop j xs)) (sym (add-one i))

pub slice-none : (xs : List Item) (i n : ℕ) → n ≡ i → slice_range xs i n ≡ []
slice-none xs i n e = let none : n - i ≡ 0 = omega (arith, e) in ap (λ m. take m (drop i xs)) none ∙ take-none (drop i xs)
  where
    take-none : (ys : List Item) → take 0 ys ≡ []
    take-none ys = refl

-- the item of an atom, and of an open parenthesis
abbrev pub item_of : Lexeme → ℕ → ℕ → Item
item_of l start end = record { kind = Atom l.kind; place = l.place; start = start; end = end }

abbrev pub paren_of : ItemKind → ℕ → ℕ → Item
paren_of kind place at = record { kind = kind; place = place; start = at; end = at }

pub text-of : (its : List Item) (text : List ℕ) (i : ℕ) (l : Lexeme) (h : IsAtomAt its text i l) → text_in text (item_of l h.start h.end) ≡ Some l.text
text-of its text i l h =
    let ordered = h.ordered in
    let within = h.within in
    let test : (nat_le h.start h.end && nat_le h.end (length text)) ≡ true = grind (arith, nat_tests) in
    ap (λ b. cond b (Some (slice_range text h.start h.end)) None) test ∙ ap Some h.text_is

-- numerals
numeral-kind : (kind : TokenKind) (place : ℕ) (text : List ℕ) → number_of_token kind place text ≡ option_map (number_at place) (numeral_of_kind kind (Some text))
numeral-kind Numeral place text = refl
numeral-kind _ place text = refl

mutual
  pub numbers-stand : (its : List Item) (text : List ℕ) (i : ℕ) (es : Exprs) (n : ℕ) → StandAll its text i es n → numerals_of (items es) ≡ numbers_in text (slice_range its i n)
  numbers-stand its text i none n h = sym (ap (λ xs. numbers_in text xs) (slice-none its i n h))
  numbers-stand its text i (also (atom l) es) n h =
      let lt : i < n = omega (arith, h.1.1, stand_all_le its text h.0 es n h.2) in
      let rest : numerals_of (items es) ≡ numbers_in text (slice_range its (i + 1) n) = numbers-stand its text h.0 es n h.2 ∙ ap (λ j. numbers_in text (slice_range its j n)) h.1.1 in
      let slice = slice-first its i n (item_of l h.1.0.start h.1.0.end) h.1.0.item lt in
      let first : option_map (number_at l.place) (numeral_of_kind l.kind (text_in text (item_of l h.1.0.start h.1.0.end))) ≡ number_of_token l.kind l.place l.text =
      ap (λ o. option_map (number_at l.place) (numeral_of_kind l.kind o)) (text-of its text i l h.1.0) ∙ sym (numeral-kind l.kind l.place l.text) in
      ap (λ ns. option_and_then (λ m. option_map (λ ms. m ∷ ms) ns) (number_of_token l.kind l.place l.text)) rest
      ∙ ap (λ o. option_and_then (λ m. option_map (λ ms. m ∷ ms) (numbers_in text (slice_range its (i + 1) n))) o) (sym first)
      ∙ sym (ap (λ xs. numbers_in text xs) slice)
  numbers-stand its text i (also (list p inside c) es) n h =
      let lt : i < n = omega (arith, stands_lt its text i (list p inside c) h.0 h.1, stand_all_le its text h.0 es n h.2) in
      sym (ap (λ xs. numbers_in text xs) (slice-first its i n (paren_of (Open h.1.0) p h.1.1.0) h.1.1.1 lt))

-- a name with indices
pub indexed-stands : (its : List Item) (text : List ℕ) (i : ℕ) (es : Exprs) (n : ℕ) → StandAll its text i es n → indexed_name (items es) ≡ indexed_in text (slice_range its i n)
indexed-stands its text i none n h = sym (ap (λ xs. indexed_in text xs) (slice-none its i n h))
indexed-stands its text i (also (atom l) es) n h =
    let lt : i < n = omega (arith, h.1.1, stand_all_le its text h.0 es n h.2) in
    let rest : numerals_of (items es) ≡ numbers_in text (slice_range its (i + 1) n) = numbers-stand its text h.0 es n h.2 ∙ ap (λ j. numbers_in text (slice_range its j n)) h.1.1 in
    let slice = slice-first its i n (item_of l h.1.0.start h.1.0.end) h.1.0.item lt in
    ap (λ ns. option_and_then (λ name. indexed_with l.place name ns) (name_of_token l.kind l.text)) rest
    ∙ ap (λ o. option_and_then (λ name. indexed_with l.place name (numbers_in text (slice_range its (i + 1) n))) (option_and_then (name_of_token l.kind) o)) (sym (text-of its text i l h.1.0))
    ∙ sym (ap (λ xs. indexed_in text xs) slice)
indexed-stands its text i (also (list p inside c) es) n h =
    let lt : i < n = omega (arith, stands_lt its text i (list p inside c) h.0 h.1, stand_all_le its text h.0 es n h.2) in
    sym (ap (λ xs. indexed_in text xs) (slice-first its i n (paren_of (Open h.1.0) p h.1.1.0) h.1.1.1 lt))

-- what a list begins with
pub construct-stands : (its : List Item) (text : List ℕ) (i : ℕ) (l : Lexeme) (h : IsAtomAt its text i l) → construct_in text (item_of l h.start h.end) ≡ construct_of (atom l)
construct-stands its text i l h = ap (construct_for l.kind) (text-of its text i l h)

pub name-stands : (its : List Item) (text : List ℕ) (i : ℕ) (l : Lexeme) (h : IsAtomAt its text i l) → name_in text (item_of l h.start h.end) ≡ symbol_of (atom l)
name-stands its text i l h = ap (λ o. option_and_then (name_of_token l.kind) o) (text-of its text i l h)

-- sorts that are lists
sort-listed : (its : List Item) (text : List ℕ) (i : ℕ) (es : Exprs) (n : ℕ) (con : Construct) (place : ℕ) (first : Expr) → StandAll its text i es n → sort_by con place text (is_symbol first) (slice_range its i n) ≡ listed_sort con place first (items es)
sort-listed its text i es n Indexed place first h = ap (λ name. indexed_sort place name) (sym (indexed-stands its text i es n h))
sort-listed its text i none n Application place first h = ap (λ xs. sort_by Application place text (is_symbol first) xs) (slice-none its i n h)
sort-listed its text i (also (atom l) es) n Application place first h =
    let lt : i < n = omega (arith, h.1.1, stand_all_le its text h.0 es n h.2) in
    ap (λ xs. sort_by Application place text (is_symbol first) xs) (slice-first its i n (item_of l h.1.0.start h.1.0.end) h.1.0.item lt)
sort-listed its text i (also (list p inside c) es) n Application place first h =
    let lt : i < n = omega (arith, stands_lt its text i (list p inside c) h.0 h.1, stand_all_le its text h.0 es n h.2) in
    ap (λ xs. sort_by Application place text (is_symbol first) xs) (slice-first its i n (paren_of (Open h.1.0) p h.1.1.0) h.1.1.1 lt)
sort-listed its text i es n _ place first h = refl

pub sort-stands : (its : List Item) (text : List ℕ) (i : ℕ) (inside : Exprs) (n place close : ℕ) → StandAll its text i inside n → sort_in place text (slice_range its i n) ≡ read_sort (list place inside close)
sort-stands its text i none n place close h = ap (λ xs. sort_in place text xs) (slice-none its i n h)
sort-stands its text i (also (atom l) es) n place close h =
    let lt : i < n = omega (arith, h.1.1, stand_all_le its text h.0 es n h.2) in
    let rest = subst (λ j. StandAll its text j es n) h.1.1 h.2 in
    ap (λ xs. sort_in place text xs) (slice-first its i n (item_of l h.1.0.start h.1.0.end) h.1.0.item lt)
    ∙ ap (λ con. sort_by con place text (is_some (name_in text (item_of l h.1.0.start h.1.0.end))) (slice_range its (i + 1) n)) (construct-stands its text i l h.1.0)
    ∙ ap (λ o. sort_by (construct_of (atom l)) place text (is_some o) (slice_range its (i + 1) n)) (name-stands its text i l h.1.0)
    ∙ sort-listed its text (i + 1) es n (construct_of (atom l)) place (atom l) rest
sort-stands its text i (also (list p inside c) es) n place close h =
    let lt : i < n = omega (arith, stands_lt its text i (list p inside c) h.0 h.1, stand_all_le its text h.0 es n h.2) in
    ap (λ xs. sort_in place text xs) (slice-first its i n (paren_of (Open h.1.0) p h.1.1.0) h.1.1.1 lt)
    ∙ no-symbol (slice_range its (i + 1) n) (items es)
  where
    no-symbol : (xs : List Item) (others : List Expr) → sort_by Application place text false xs ≡ listed_sort Application place (list p inside c) others
    no-symbol [] [] = refl
    no-symbol [] (e ∷ es) = refl
    no-symbol (x ∷ xs) [] = refl
    no-symbol (x ∷ xs) (e ∷ es) = refl

-- where a list ends
pub list-item : (its : List Item) (text : List ℕ) (i : ℕ) (e : Expr) (j : ℕ) (x : Item) (n : ℕ) → Stands its text i e j → slice_get its i ≡ Some x → x.kind ≡ Open n → (inside : Exprs) × (close : ℕ) × (e ≡ list x.place inside close) × StandAll its text (i + 1) inside n × (i + 1 ≤ n) × (n < length its)
list-item its text i (atom l) j x n h e k =
    let same : item_of l h.0.start h.0.end ≡ x = some-is (item_of l h.0.start h.0.end) x (sym h.0.item ∙ e) in
    absurd (kinds l.kind n (ap (λ (y : Item). y.kind) same ∙ k))
  where
    some-is : (a b : Item) → ◌≡◌ {A = Option Item} (Some a) (Some b) → a ≡ b
    some-is a b h = cc

    kinds : (kind : TokenKind) (n : ℕ) → ◌≡◌ {A = ItemKind} (Atom kind) (Open n) → ⊥
    kinds kind n h = cc
list-item its text i (list place inside close) j x n h e k =
    let same : paren_of (Open h.0) place h.1.0 ≡ x = some-is (paren_of (Open h.0) place h.1.0) x (sym h.1.1 ∙ e) in
    let number : h.0 ≡ n = opens h.0 n (ap (λ (y : Item). y.kind) same ∙ k) in
    let there = subst (λ m. StandAll its text (i + 1) inside m) number h.2 in
    let le = stand_all_le its text (i + 1) inside n there in
    let lt = slice_get_within its h.0 (paren_of Close close h.3.0) h.3.1 in
    (inside, close, ap (λ (y : Item). list y.place inside close) same, there, le, omega (arith, lt, number))
  where
    some-is : (a b : Item) → ◌≡◌ {A = Option Item} (Some a) (Some b) → a ≡ b
    some-is a b h = cc

    opens : (m n : ℕ) → ◌≡◌ {A = ItemKind} (Open m) (Open n) → m ≡ n
    opens m n h = cc

-- an item that is neither an open parenthesis nor a close one is an atom
pub atom-sort : (its : List Item) (text : List ℕ) (i : ℕ) (e : Expr) (j : ℕ) (x : Item) → Stands its text i e j → slice_get its i ≡ Some x → ((n : ℕ) → x.kind ≡ Open n → ⊥) → sort_named x.place (name_in text x) ≡ read_sort e
atom-sort its text i (atom l) j x h e other =
    let same : item_of l h.0.start h.0.end ≡ x = some-is (item_of l h.0.start h.0.end) x (sym h.0.item ∙ e) in
    subst (λ (y : Item). sort_named y.place (name_in text y) ≡ read_sort (atom l)) same (ap (sort_named l.place) (name-stands its text i l h.0))
  where
    some-is : (a b : Item) → ◌≡◌ {A = Option Item} (Some a) (Some b) → a ≡ b
    some-is a b h = cc
atom-sort its text i (list place inside close) j x h e other =
    let same : paren_of (Open h.0) place h.1.0 ≡ x = some-is (paren_of (Open h.0) place h.1.0) x (sym h.1.1 ∙ e) in
    absurd (other h.0 (sym (ap (λ (y : Item). y.kind) same)))
  where
    some-is : (a b : Item) → ◌≡◌ {A = Option Item} (Some a) (Some b) → a ≡ b
    some-is a b h = cc

-- the item that was read
get-at : (xs : List Item) (i : ℕ) (x d : Item) → slice_get xs i ≡ Some x → get_or xs i d ≡ x
get-at [] i x d e = absurd (cc)
get-at (y ∷ ys) zero x d e = cc
get-at (y ∷ ys) (suc i) x d e = get-at ys i x d e

pub read-item : (xs : List Item) (i : ℕ) (x d : Item) → slice_get xs i ≡ Some x → d ≡ get_or xs i d → slice_get xs i ≡ Some d
read-item xs i x d e f = e ∙ ap Some (sym (get-at xs i x d e) ∙ sym f)
