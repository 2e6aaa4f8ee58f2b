-- What stands in a clause list: clauses and bits over its variables, and bits for the subtrees of the formulas.
use Rattle.std.proofs.Common.{◌≡◌, ℕ, ◌≤◌, ◌||◌, Bool, true, false, cond, inl, inr, is_some, Some, List, [], ◌∷◌, ◌++◌, map, refl, sym, ap, ◌∙◌, subst, arith}
use Rattle.std.specs.Prelude.{unwrap_or}
use Rattle.std.specs.List.{AllByRecursion, flat_map}
use Rattle.qv_words.specs.declared.sort.Sort.{Sort}
use Rattle.qv_words.specs.Tree.{Tree, IsQuantifierFree}
use Rattle.qv_words.specs.Laws.{SortedTreesHaveSorts}
use Rattle.qv_words.specs.PassLaws.{IsPlain}
use Rattle.qv_words.specs.Equality.{tree_eq}
use Rattle.qv_words.specs.Clauses.{is_among, Blasted, Blasting, first_blasting, bits_of, with_unit, with_formula, with_formulas}
use Rattle.qv_circuits_laws.specs.CircuitLaws.{IsBefore, CircuitsAreWellFormed}
use Rattle.qv_circuits_laws.specs.ClauseLaws.{post_order, first_appearances, blasted, walked}
use Rattle.qv_words.proofs.Equals.{tree_eq-is, tree_eq-refl}
use Rattle.qv_words.proofs.Leaves.{both}
use Rattle.qv_words.proofs.NewNodes.{nil-behind}
use Rattle.qv_circuits_laws.proofs.Listing.{formula-walks, formulas-trees}
use Rattle.qv_circuits_laws.proofs.Nodes.{In, in-from_test, test-from_in, in-either, firsts-gain, firsts-from, of-formulas}
use Rattle.qv_circuits_laws.specs.Standing.{Placed, Stands}
use Rattle.qv_circuits_laws.proofs.Standing.{bits-found, Has, Extends, Fit, Keeps, walk}

-- a formula is added by its walk and its unit clause
pub formula-added : (b : Blasting) (t : Tree) → IsQuantifierFree t → with_formula b t ≡ with_unit t (walked b t)
formula-added b t h = ap (with_unit t) (formula-walks b t h)

pub unit-stands : (d : Blasting) (t : Tree) → Stands d → Has d t → Stands (with_unit t d)
unit-stands d t st has =
    let bits : unwrap_or (bits_of d.known t) [] ≡ has.0 = ap (λ o. unwrap_or o []) has.1 in
    let k = bits-found (Placed d.next) d.known t has.0 st.known has.1 in
    let root : AllByRecursion (IsBefore d.next) (unwrap_or (bits_of d.known t) []) = subst (AllByRecursion (IsBefore d.next)) (sym bits) k.word.earlier in
    record {
      low = st.low;
      known = st.known;
      clauses = both (AllByRecursion (IsBefore d.next)) d.clauses (unwrap_or (bits_of d.known t) [] ∷ []) st.clauses (root, tt);
    }

pub unit-extends : (d : Blasting) (t : Tree) → Extends d (with_unit t d)
unit-extends d t = record { more = []; known = nil-behind d.known; next = (let same : d.next ≤ d.next = omega arith in same); rest = unwrap_or (bits_of d.known t) [] ∷ []; clauses = refl }

-- plain formulas keep where a list stands
abbrev Any : ℕ × Sort → Type 0
Any leaf = Unit {0}

all-any : (leaves : List (ℕ × Sort)) → AllByRecursion Any leaves
all-any [] = tt
all-any (x ∷ xs) = (tt, all-any xs)

plain-fits : (t : Tree) → IsPlain t → Fit Any Any t
plain-fits t p = record { sorted = p.sorted; free = p.free; constants = all-any _; levels = all-any _ }

nothing-kept : Keeps Any Any (λ _. Unit {0})
nothing-kept b t fit st has q = tt

pub formulas-stand : CircuitsAreWellFormed → SortedTreesHaveSorts → (b : Blasting) (ts : List Tree) → AllByRecursion IsPlain ts → Stands b → Stands (with_formulas b ts)
formulas-stand formed law b [] h st = st
formulas-stand formed law b (t ∷ ts) h st =
    let w = walk formed law nothing-kept b t (plain-fits t h.0) st tt in
    subst (λ (x : Blasting). Stands (with_formulas x ts)) (sym (formula-added b t h.0.free))
    (formulas-stand formed law (with_unit t (walked b t)) ts h.1 (unit-stands (walked b t) t w.stands w.has))

-- the trees that have bits are the subtrees, each where it first appears
pub blasted-trees : (ts : List Tree) → AllByRecursion IsQuantifierFree ts → map (λ k. k.tree) (blasted ts) ≡ first_appearances [] (flat_map post_order ts)
blasted-trees ts h = formulas-trees first_blasting ts h ∙ of-formulas [] ts (λ u x k _. k)

-- bits are found for the trees that have some
pub bits-among : (known : List Blasted) (t : Tree) → is_some (bits_of known t) ≡ is_among (map (λ k. k.tree) known) t
bits-among [] t = refl
bits-among (k ∷ ks) t = go (tree_eq t k.tree) (bits-among ks t)
  where
    go : (b : Bool) → is_some (bits_of ks t) ≡ is_among (map (λ k. k.tree) ks) t → is_some (cond b (Some k.bits) (bits_of ks t)) ≡ (b || is_among (map (λ k. k.tree) ks) t)
    go true rest = refl
    go false rest = rest

pub bits-in_order : (known more : List Blasted) (t : Tree) → bits_of (known ++ more) t ≡ cond (is_some (bits_of known t)) (bits_of known t) (bits_of more t)
bits-in_order [] more t = refl
bits-in_order (k ∷ ks) more t = go (tree_eq t k.tree) (bits-in_order ks more t)
  where
    go : (b : Bool) → bits_of (ks ++ more) t ≡ cond (is_some (bits_of ks t)) (bits_of ks t) (bits_of more t) → cond b (Some k.bits) (bits_of (ks ++ more) t) ≡ cond (is_some (cond b (Some k.bits) (bits_of ks t))) (cond b (Some k.bits) (bits_of ks t)) (bits_of more t)
    go true rest = refl
    go false rest = rest

-- lists with the same trees
same-test : (us xs : List Tree) (t : Tree) → (In t us → In t xs) → (In t xs → In t us) → is_among us t ≡ is_among xs t
same-test us xs t f g = go (is_among us t) (is_among xs t) refl refl
  where
    go : (a b : Bool) → is_among us t ≡ a → is_among xs t ≡ b → a ≡ b
    go true true h k = refl
    go true false h k = let there = test-from_in xs t (f (in-from_test us t h)) in cc
    go false true h k = let there = test-from_in us t (g (in-from_test xs t k)) in cc
    go false false h k = refl

pub in-formulas : (ts : List Tree) → AllByRecursion IsQuantifierFree ts → (t : Tree) → In t (map (λ k. k.tree) (blasted ts)) → In t (flat_map post_order ts)
in-formulas ts h t k =
    elim (firsts-from [] (flat_map post_order ts) t (subst (In t) (blasted-trees ts h) k)) [ inl none ↦ absurd none | inr found ↦ found ]

pub in-blasted : (ts : List Tree) → AllByRecursion IsQuantifierFree ts → (t : Tree) → In t (flat_map post_order ts) → In t (map (λ k. k.tree) (blasted ts))
in-blasted ts h t k = subst (In t) (sym (blasted-trees ts h)) (firsts-gain [] (flat_map post_order ts) t k)

pub subtrees-have_bits : (ts : List Tree) (t : Tree) → AllByRecursion IsQuantifierFree ts → is_some (bits_of (blasted ts) t) ≡ is_among (flat_map post_order ts) t
subtrees-have_bits ts t h =
    bits-among (blasted ts) t ∙ same-test (map (λ k. k.tree) (blasted ts)) (flat_map post_order ts) t (in-formulas ts h t) (in-blasted ts h t)

-- no tree stands twice
abbrev Distinct : List Tree → Type 0
Distinct [] = Unit {0}
Distinct (t ∷ ts) = (In t ts → ⊥) × Distinct ts

distinct-more : (seen : List Tree) (t : Tree) → Distinct seen → (In t seen → ⊥) → Distinct (seen ++ t ∷ [])
distinct-more [] t d h = (λ k. k, tt)
distinct-more (u ∷ us) t d h = (
  λ k. elim (in-either u us (t ∷ []) k) [ inl a ↦ d.0 a | inr (inl e) ↦ h (inl (sym e)) | inr (inr none) ↦ none ],
  distinct-more us t d.1 (λ k. h (inr k)),
)

firsts-distinct : (seen xs : List Tree) → Distinct seen → Distinct (first_appearances seen xs)
firsts-distinct seen [] d = d
firsts-distinct seen (x ∷ xs) d = firsts-distinct (cond (is_among seen x) seen (seen ++ x ∷ [])) xs (go (is_among seen x) refl)
  where
    go : (b : Bool) → is_among seen x ≡ b → Distinct (cond b seen (seen ++ x ∷ []))
    go true e = d
    go false e = distinct-more seen x d (λ k. let both-ways : true ≡ false = sym (test-from_in seen x k) ∙ e in cc)

-- so each has the bits that it was given
abbrev Finds : List Blasted → Blasted → Type 0
Finds known k = bits_of known k.tree ≡ Some k.bits

finds-behind : (k : Blasted) (ks js : List Blasted) → (In k.tree (map (λ j. j.tree) ks) → ⊥) → ((x : Tree) → In x (map (λ j. j.tree) js) → In x (map (λ j. j.tree) ks)) → AllByRecursion (Finds ks) js → AllByRecursion (Finds (k ∷ ks)) js
finds-behind k ks [] new inside h = tt
finds-behind k ks (j ∷ js) new inside h = (go (tree_eq j.tree k.tree) refl, finds-behind k ks js new (λ x i. inside x (inr i)) h.1)
  where
    go : (b : Bool) → tree_eq j.tree k.tree ≡ b → cond b (Some k.bits) (bits_of ks j.tree) ≡ Some j.bits
    go true e = absurd (new (subst (λ (x : Tree). In x (map (λ j. j.tree) ks)) (tree_eq-is j.tree k.tree e) (inside j.tree (inl refl))))
    go false e = h.0

distinct-finds : (known : List Blasted) → Distinct (map (λ k. k.tree) known) → AllByRecursion (Finds known) known
distinct-finds [] d = tt
distinct-finds (k ∷ ks) d =
    (ap (λ b. cond b (Some k.bits) (bits_of ks k.tree)) (tree_eq-refl k.tree), finds-behind k ks ks d.0 (λ x i. i) (distinct-finds ks d.1))

pub bits-are_found : (ts : List Tree) → AllByRecursion IsQuantifierFree ts → AllByRecursion (Finds (blasted ts)) (blasted ts)
bits-are_found ts h = distinct-finds (blasted ts) (subst Distinct (sym (blasted-trees ts h)) (firsts-distinct [] (flat_map post_order ts) tt))
