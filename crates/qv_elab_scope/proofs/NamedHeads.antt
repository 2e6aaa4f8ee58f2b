-- Heads by their names and indices.
use Rattle.std.proofs.Common.{◌≡◌, ◌≤◌, ◌<◌, ◌^◌, ◌↔◌, not, ℕ, Bool, true, false, cond, Option, Some, None, List, [], ◌∷◌, map, length, get_or, slice_get, ◌+◌, refl, sym, ap, subst, ◌∙◌, Ok, Err, arith}
use Rattle.std.specs.Prelude.{Result, option_map, option_and_then, unwrap_or, find, is_some, nat_lt}
use Rattle.std.specs.List.{slice_range}
use Rattle.qv_sexpr.specs.declared.items.Item.{Item}
use Rattle.qv_sexpr.specs.declared.items.ItemKind.TheVariants.{Open}
use Rattle.qv_sexpr.specs.Script.{atom, list, none, also, Tree as Expr, Trees as Exprs}
use Rattle.qv_sexpr.specs.Items.{Stands, StandAll}
use Rattle.qv_sexpr.proofs.Standing.{stands_lt, stand_all_le}
use Rattle.qv_words.specs.declared.op.Op.{Op}
use Rattle.qv_words.specs.declared.op.Op.TheVariants.{Extract, Repeat, ZeroExtend, SignExtend, RotateLeft, RotateRight, Not}
use Rattle.qv_sorts.specs.Names.{indices_of, IsNamed, NamesNone, name_of}
use Rattle.qv_sorts.specs.Search.{operator_named, with_indices, indexed_operator}
use Rattle.qv_sorts.proofs.Searching.{own, operators-are-found}
use Rattle.qv_sorts.specs.declared.operators.NameFault.{NameFault}
use Rattle.qv_sorts.specs.declared.operators.NameFault.TheVariants.{Unknown, Indices}
use Rattle.qv_elab_defs.specs.declared.faults.ElabKind.TheVariants.{Index, Literal}
use Rattle.qv_elab_defs.specs.Faults.{Fault, refuse, ◌>>=◌}
use Rattle.qv_elab_defs.specs.Tokens.{Number, items, number_of, small_number_of}
use Rattle.qv_elab_defs.specs.Scopes.{Scope}
use Rattle.qv_elab_defs.specs.Shapes.{Construct, Indexed, construct_of}
use Rattle.qv_elab_defs.specs.Heads.{Head, HeadName, bare, operator, head_operator, head_named, head_symbol, head_indexed, head_listed, head_of}
use Rattle.qv_elab_items.specs.Flat.{name_in, construct_in, indexed_in, numeral_in, numbers_in, is_large_number, is_large}
use Rattle.qv_elab_scope.specs.Headed.{op_of, no_head, named, head_by, head_in}
use Rattle.qv_elab_items.proofs.Wanting.{first-number, large-first, none-large, numbers-length, place_of_large}
use Rattle.qv_elab_items.proofs.Slices.{item_of, paren_of, slice-first, slice-none, indexed-stands, construct-stands, name-stands}

-- names of no operator
self-indices : (o : Op) → with_indices o (indices_of o) ≡ Some o
self-indices Not = refl
self-indices _ = refl

named-by : (name : List ℕ) (o : Op) → operator_named name ≡ Some o → name_of o ≡ name
named-by name o e =
    let found : indexed_operator name (indices_of o) ≡ Some o = ap (option_and_then (λ p. with_indices p (indices_of o))) e ∙ self-indices o in
    ((operators-are-found name (indices_of o) o).0 found).name

pub none-named : (name : List ℕ) → NamesNone name → is_some (operator_named name) ≡ false
none-named name nobody = go (operator_named name) refl
  where
    go : (r : Option Op) → operator_named name ≡ r → is_some r ≡ false
    go None e = refl
    go (Some o) e = absurd (nobody o (named-by name o e))

-- the operator that is found
pub op-is : (name indices : List ℕ) (r : Result Op NameFault) → ((o : Op) → (r ≡ Ok o) ↔ IsNamed name indices o) → op_of r ≡ indexed_operator name indices
op-is name indices (Ok o) h = sym ((operators-are-found name indices o).1 ((h o).0 refl))
op-is name indices (Err f) h = go (indexed_operator name indices) refl
  where
    go : (q : Option Op) → indexed_operator name indices ≡ q → None ≡ q
    go None e = refl
    go (Some o) e = absurd (let same = (h o).1 ((operators-are-found name indices o).0 e) in cc)

pub none-is : (name : List ℕ) → NamesNone name → operator_named name ≡ None
none-is name nobody = go (operator_named name) refl
  where
    go : (r : Option Op) → operator_named name ≡ r → r ≡ None
    go None e = refl
    go (Some o) e = absurd (let some = sym (ap is_some e) ∙ none-named name nobody in cc)

pub is-none : (name : List ℕ) → operator_named name ≡ None → NamesNone name
is-none name e o is =
    let found = own o in
    let nothing = ap (λ (n : List ℕ). option_and_then (λ p. with_indices p (indices_of o)) (operator_named n)) is ∙ ap (option_and_then (λ p. with_indices p (indices_of o))) e in
    absurd (cc)

-- a name that no operator has
pub unknown-is : (name : List ℕ) (r : Result Op NameFault) → (r ≡ Err Unknown) ↔ NamesNone name → (r ≡ Err Unknown) ↔ (operator_named name ≡ None)
unknown-is name r h = (λ e. none-is name (h.0 e), λ e. h.1 (is-none name e))

pub other-unknown : (name : List ℕ) (r : Result Op NameFault) (o : Op) → (r ≡ Err Unknown) ↔ NamesNone name → r ≡ Ok o → (◌≡◌ {A = Result Op NameFault} (Err Indices) (Err Unknown)) ↔ (operator_named name ≡ None)
other-unknown name r o h e = (λ f. absurd (cc), λ f. absurd (let g = h.1 (is-none name f) in cc))

-- with these indices
pub op-with : (name indices : List ℕ) (r : Result Op NameFault) (o : Op) (vs : List ℕ) → ((o : Op) → (r ≡ Ok o) ↔ IsNamed name indices o) → operator_named name ≡ Some o → vs ≡ indices → op_of r ≡ with_indices o vs
op-with name indices r o vs h e f =
    op-is name indices r h ∙ ap (option_and_then (λ p. with_indices p indices)) e ∙ ap (with_indices o) (sym f)

pub three-none : (o : Op) (a b c : ℕ) (rest : List ℕ) → with_indices o (a ∷ b ∷ c ∷ rest) ≡ None
three-none (Extract i j) a b c rest = refl
three-none (Repeat k) a b c rest = refl
three-none (ZeroExtend k) a b c rest = refl
three-none (SignExtend k) a b c rest = refl
three-none (RotateLeft k) a b c rest = refl
three-none (RotateRight k) a b c rest = refl
three-none _ a b c rest = refl

abbrev values : List Number → List ℕ
values ns = map (λ n. n.value) ns

pub three-values : (text : List ℕ) (numerals : List Item) (ns : List Number) (o : Op) → numbers_in text numerals ≡ Some ns → 3 ≤ length numerals → None ≡ with_indices o (values ns)
three-values text numerals ns o e le = go ns (let same = numbers-length text numerals ns e in omega arith)
  where
    go : (ms : List Number) → 3 ≤ length ms → None ≡ with_indices o (values ms)
    go [] le = absurd (omega arith)
    go (a ∷ []) le = absurd (omega arith)
    go (a ∷ b ∷ []) le = absurd (omega arith)
    go (a ∷ b ∷ c ∷ rest) le = sym (three-none o a.value b.value c.value (values rest))

-- numerals that are small
abbrev value_in : List ℕ → Item → ℕ
value_in text x = unwrap_or (option_and_then small_number_of (numeral_in text x)) 0

abbrev first_large : List ℕ → List Item → Option Item
first_large text xs = find (λ item. is_large text item) xs

some-list : (a b : List Number) → ◌≡◌ {A = Option (List Number)} (Some a) (Some b) → a ≡ b
some-list a b h = cc

no-values : (text : List ℕ) (ns : List Number) → numbers_in text [] ≡ Some ns → values ns ≡ []
no-values text ns e = ap values (sym (some-list [] ns e))

next-value : (text : List ℕ) (x : Item) (xs : List Item) (ns : List Number) → numbers_in text (x ∷ xs) ≡ Some ns → first_large text (x ∷ xs) ≡ None → (ms : List Number) × (numbers_in text xs ≡ Some ms) × (first_large text xs ≡ None) × (values ns ≡ value_in text x ∷ values ms)
next-value text x xs ns e f =
    let parts = first-number text x xs ns e in
    let both = small (numeral_in text x) parts.2 f in
    (parts.1, parts.3, both.0, ap values parts.4 ∙ ap (λ v. v ∷ values parts.1) (sym both.1))
  where
    small : (o : Option (List ℕ)) → {ds : List ℕ} → o ≡ Some ds → cond (is_large_number o) (Some x) (first_large text xs) ≡ None → (first_large text xs ≡ None) × (unwrap_or (option_and_then small_number_of o) 0 ≡ number_of 10 ds)
    small None e f = absurd (cc)
    small (Some cs) {ds} e f = go (nat_lt (number_of 10 cs) (2 ^ 128)) f
      where
        same : cs ≡ ds
        same = cc

        go : (b : Bool) → cond (not b) (Some x) (first_large text xs) ≡ None → (first_large text xs ≡ None) × (unwrap_or (cond b (Some (number_of 10 cs)) None) 0 ≡ number_of 10 ds)
        go true f = (f, ap (number_of 10) same)
        go false f = absurd (cc)

pub none-values : (text : List ℕ) (numerals : List Item) (ns : List Number) → numbers_in text numerals ≡ Some ns → length numerals < 1 → values ns ≡ []
none-values text [] ns e lt = no-values text ns e
none-values text (x ∷ xs) ns e lt = absurd (omega arith)

pub one-value : (text : List ℕ) (numerals : List Item) (ns : List Number) (d : Item) → numbers_in text numerals ≡ Some ns → first_large text numerals ≡ None → 1 ≤ length numerals → length numerals < 2 → values ns ≡ value_in text (get_or numerals 0 d) ∷ []
one-value text [] ns d e f le lt = absurd (omega arith)
one-value text (x ∷ []) ns d e f le lt =
    let first = next-value text x [] ns e f in
    first.3 ∙ ap (λ vs. value_in text x ∷ vs) (no-values text first.0 first.1)
one-value text (x ∷ y ∷ xs) ns d e f le lt = absurd (omega arith)

pub two-values : (text : List ℕ) (numerals : List Item) (ns : List Number) (d : Item) → numbers_in text numerals ≡ Some ns → first_large text numerals ≡ None → 2 ≤ length numerals → length numerals < 3 → values ns ≡ value_in text (get_or numerals 0 d) ∷ value_in text (get_or numerals 1 d) ∷ []
two-values text [] ns d e f le lt = absurd (omega arith)
two-values text (x ∷ []) ns d e f le lt = absurd (omega arith)
two-values text (x ∷ y ∷ []) ns d e f le lt =
    let first = next-value text x (y ∷ []) ns e f in
    let second = next-value text y [] first.0 first.1 first.2 in
    first.3 ∙ ap (λ vs. value_in text x ∷ vs) (second.3 ∙ ap (λ vs. value_in text y ∷ vs) (no-values text second.0 second.1))
two-values text (x ∷ y ∷ z ∷ xs) ns d e f le lt = absurd (omega arith)

-- a head without indices
pub head-large : (text : List ℕ) (xs : List Item) (ns : List Number) (place p : ℕ) → numbers_in text xs ≡ Some ns → place_of_large text xs ≡ Some p → no_head place ns ≡ refuse p Literal
head-large text xs ns place p e f = ap (λ (r : Result (List ℕ) Fault). r >>= λ _. refuse place Index) (large-first text xs ns p e f)

pub head-small : (text : List ℕ) (xs : List Item) (ns : List Number) (place : ℕ) → numbers_in text xs ≡ Some ns → place_of_large text xs ≡ None → no_head place ns ≡ refuse place Index
head-small text xs ns place e f = ap (λ (r : Result (List ℕ) Fault). r >>= λ _. refuse place Index) (none-large text xs ns e f)

pub bare-some : (h : HeadName) (head : Head) (place : ℕ) (ns : List Number) → h.head_place ≡ place → 1 ≤ length ns → bare h head ns ≡ no_head place ns
bare-some h head place [] e le = absurd (omega arith)
bare-some h head place (n ∷ ns) e le = ap (λ p. no_head p (n ∷ ns)) e

-- an operator by its indices
pub operator-large : (text : List ℕ) (xs : List Item) (h : HeadName) (o : Op) (p : ℕ) → numbers_in text xs ≡ Some h.indices → place_of_large text xs ≡ Some p → head_operator h (Some o) ≡ refuse p Literal
operator-large text xs h o p e f = ap (λ (r : Result (List ℕ) Fault). r >>= λ ns. operator h (with_indices o ns)) (large-first text xs h.indices p e f)

pub operator-small : (text : List ℕ) (xs : List Item) (h : HeadName) (o : Op) → numbers_in text xs ≡ Some h.indices → place_of_large text xs ≡ None → head_operator h (Some o) ≡ operator h (with_indices o (values h.indices))
operator-small text xs h o e f = ap (λ (r : Result (List ℕ) Fault). r >>= λ ns. operator h (with_indices o ns)) (none-large text xs h.indices e f)

-- with its indices
pub known-large : (text : List ℕ) (xs : List Item) (p : ℕ) → Some p ≡ place_of_large text xs → (h : HeadName) (o : Op) → numbers_in text xs ≡ Some h.indices → head_operator h (Some o) ≡ refuse p Literal
known-large text xs p f h o e = operator-large text xs h o p e (sym f)

not-large : (text : List ℕ) (xs : List Item) → None ≡ place_of_large text xs → first_large text xs ≡ None
not-large text xs e = go (first_large text xs) e
  where
    go : (o : Option Item) → None ≡ option_map (λ (item : Item). item.place) o → o ≡ None
    go None e = refl
    go (Some x) e = absurd (cc)

pub known-small : (text : List ℕ) (xs : List Item) → None ≡ place_of_large text xs → (op : Option Op) (h : HeadName) (o : Op) → numbers_in text xs ≡ Some h.indices → (first_large text xs ≡ None → op ≡ with_indices o (values h.indices)) → head_operator h (Some o) ≡ operator h op
known-small text xs f op h o e k = operator-small text xs h o e (sym f) ∙ ap (operator h) (sym (k (not-large text xs f)))

pub some-operator : (name : List ℕ) (r : Result Op NameFault) → ((r ≡ Err Unknown) ↔ (operator_named name ≡ None)) → (r ≡ Err Unknown → ⊥) → (o : Op) × (operator_named name ≡ Some o)
some-operator name r h other = go (operator_named name) refl
  where
    go : (q : Option Op) → operator_named name ≡ q → (o : Op) × (operator_named name ≡ Some o)
    go (Some o) e = (o, e)
    go None e = absurd (other (h.1 e))

-- a list at the head
pub listed-indexed : (defs : Scope) (place p : ℕ) (text : List ℕ) (first : Item) (others all : List Item) (ip : ℕ) (name : List ℕ) (n : Number) (ns : List Number) → all ≡ first ∷ others → construct_in text first ≡ Indexed → indexed_in text others ≡ Some (record { place = ip; name = name; first = n; others = ns }) → head_in defs place p text all ≡ head_named defs (named p ip name (n ∷ ns))
listed-indexed defs place p text first others all ip name n ns e f g =
    ap (head_in defs place p text) e ∙ ap (λ con. head_by con defs place p text others) f ∙ ap (head_indexed defs p) g

head-listed : (its : List Item) (text : List ℕ) (i : ℕ) (es : Exprs) (n : ℕ) (con : Construct) (defs : Scope) (place p : ℕ) → StandAll its text i es n → head_by con defs place p text (slice_range its i n) ≡ head_listed con defs place p (items es)
head-listed its text i es n Indexed defs place p h = ap (head_indexed defs p) (sym (indexed-stands its text i es n h))
head-listed its text i es n _ defs place p h = refl

pub head-stands : (its : List Item) (text : List ℕ) (i : ℕ) (inside : Exprs) (n : ℕ) (defs : Scope) (place p close : ℕ) → StandAll its text i inside n → head_in defs place p text (slice_range its i n) ≡ head_of defs place (list p inside close)
head-stands its text i none n defs place p close h = ap (head_in defs place p text) (slice-none its i n h)
head-stands its text i (also (atom l) es) n defs place p close h =
    let lt : i < n = omega (arith, h.1.1, stand_all_le its text h.0 es n h.2) in
    let rest = subst (λ j. StandAll its text j es n) h.1.1 h.2 in
    ap (head_in defs place p text) (slice-first its i n (item_of l h.1.0.start h.1.0.end) h.1.0.item lt)
    ∙ ap (λ con. head_by con defs place p text (slice_range its (i + 1) n)) (construct-stands its text i l h.1.0)
    ∙ head-listed its text (i + 1) es n (construct_of (atom l)) defs place p rest
head-stands its text i (also (list q inside c) es) n defs place p close h =
    let lt : i < n = omega (arith, stands_lt its text i (list q inside c) h.0 h.1, stand_all_le its text h.0 es n h.2) in
    ap (head_in defs place p text) (slice-first its i n (paren_of (Open h.1.0) q h.1.1.0) h.1.1.1 lt)

pub atom-head : (its : List Item) (text : List ℕ) (i : ℕ) (e : Expr) (j : ℕ) (x : Item) (defs : Scope) (place : ℕ) → Stands its text i e j → slice_get its i ≡ Some x → ((n : ℕ) → x.kind ≡ Open n → ⊥) → head_symbol defs place x.place (name_in text x) ≡ head_of defs place e
atom-head its text i (atom l) j x defs place h e other =
    let same : item_of l h.0.start h.0.end ≡ x = some-item (item_of l h.0.start h.0.end) x (sym h.0.item ∙ e) in
    subst (λ (y : Item). head_symbol defs place y.place (name_in text y) ≡ head_of defs place (atom l)) same (ap (head_symbol defs place l.place) (name-stands its text i l h.0))
  where
    some-item : (a b : Item) → ◌≡◌ {A = Option Item} (Some a) (Some b) → a ≡ b
    some-item a b h = cc
atom-head its text i (list p inside close) j x defs place h e other =
    let same : paren_of (Open h.0) p h.1.0 ≡ x = some-item (paren_of (Open h.0) p h.1.0) x (sym h.1.1 ∙ e) in
    absurd (other h.0 (sym (ap (λ (y : Item). y.kind) same)))
  where
    some-item : (a b : Item) → ◌≡◌ {A = Option Item} (Some a) (Some b) → a ≡ b
    some-item a b h = cc
