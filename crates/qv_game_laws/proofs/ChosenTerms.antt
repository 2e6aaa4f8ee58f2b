-- The terms that are chosen for a block are terms of its places' sorts, over the places before it.
use Rattle.std.proofs.Common.{◌≡◌, ℕ, zero, suc, ◌<◌, ◌==◌, ◌&&◌, ◌||◌, nat_le, nat_lt, inl, inr, Bool, true, false, cond, not, Option, Some, None, List, [], ◌∷◌, refl, sym, subst, slice_get}
use Rattle.std.specs.Prelude.{IsSomeAnd, MatchOption, All}
use Rattle.std.specs.List.{AllByRecursion, AllZip, list_any, Contains}
use Rattle.std.proofs.lemmas.Bool.{eqb-true, le-leb, lt-ltb, cases_lt}
use Rattle.std.proofs.lemmas.List.Elements.{recursion_from_All, All-from_recursion, All-contains_itself, All-contains}
use Rattle.qv_words.specs.declared.sort.Sort.{Sort}
use Rattle.qv_words.specs.declared.sort.Sort.TheVariants.{Bool as BoolSort}
use Rattle.qv_words.specs.Sort.{IsLawful, IsValueOf}
use Rattle.qv_words.specs.Tree.{Tree, Literal}
use Rattle.qv_words.specs.Sorted.{no_levels, with_level, free_levels}
use Rattle.qv_words.specs.Skolem.{IsTermOf}
use Rattle.qv_words.specs.Choice.{candidates, with_term, IsChosen, AreChosen}
use Rattle.qv_words.specs.ChoiceLaws.{HasSortAt, HasSortsFrom}
use Rattle.qv_game_laws.specs.CandidateLaws.{HasValuesAt, HasValuesFrom, CandidatesAreTerms, ChosenAreTerms}
use Rattle.qv_words.proofs.Leaves.{back}
use Rattle.qv_game_laws.proofs.Terms.{OfVariable, IsOver, IsOf, HasSort, EachLeaf, Puts, over-put, over-from, over-sorted, over-free, over-constants, over-leaves, over-from_term, term-from_over}
use Rattle.qv_game_laws.proofs.Candidates.{IsCandidate, candidates-over}
use Rattle.qv_words.proofs.Elements.{zip-more}

literal-of : (P : OfVariable) (first end : ℕ) (s : Sort) (t : Tree) (o : Option ℕ) → IsLawful s → ((v : ℕ) → o ≡ Some v → IsValueOf v s) → IsSomeAnd o (λ n. t ≡ Literal s n) → IsCandidate P first end s t
literal-of P first end s t None lawful values h = absurd h
literal-of P first end s t (Some n) lawful values h = subst (IsCandidate P first end s) (sym h) (((lawful, values n refl), refl), refl)

one-chosen : (P : OfVariable) (first end : ℕ) (point : List ℕ) (region : Tree) (x : ℕ) (s : Sort) (t : Tree) → HasSort P x s → IsLawful s → HasValuesAt point x s → IsOver P region → IsChosen first end point region x s t → IsCandidate P first end s t
one-chosen P zero end point region x s t own lawful values h c = literal-of P zero end s t (slice_get point x) lawful values c
one-chosen P (suc before) end point region x s t own lawful values h (inl c) =
    let first = suc before in
    (back (IsCandidate P first end s) c.before (t ∷ c.behind) (subst (AllByRecursion (IsCandidate P first end s)) c.stands (candidates-over P first end region x s own h))).0
one-chosen P (suc before) end point region x s t own lawful values h (inr c) = literal-of P (suc before) end s t (slice_get point x) lawful values c.value

-- the region goes on over the same variables
next-over : (P : OfVariable) (x : ℕ) (s : Sort) (t region : Tree) → HasSort P x s → IsOf P s t → IsOver P region → IsOver P (with_term x t region)
next-over P x s t region own ht h = (over-put P P (with_level no_levels x t) puts region h).0
  where
    puts : (l : ℕ) (q : Sort) → P l q → Puts P (with_level no_levels x t) l q
    puts l q k = go (l == x) refl
      where
        go : (b : Bool) → (l == x) ≡ b → MatchOption (cond b (Some t) None) (P l q) (IsOf P q)
        go false e = k
        go true e = subst (λ (r : Sort). IsOf P r t) (sym (own q (subst (λ (j : ℕ). P j q) (eqb-true l x e) k))) ht

-- the places from x on have these sorts, in the region and at the point
abbrev pub HavePlaces : OfVariable → List ℕ → ℕ → List Sort → Type 0
HavePlaces P point x [] = Unit {0}
HavePlaces P point x (s ∷ sorts) = (HasSort P x s × IsLawful s × HasValuesAt point x s) × HavePlaces P point (suc x) sorts

pub block-chosen : (P : OfVariable) (first end : ℕ) (point : List ℕ) (region : Tree) (x : ℕ) (sorts : List Sort) (terms : List Tree) → HavePlaces P point x sorts → IsOver P region → AreChosen first end point region x sorts terms → AllZip (λ t s. IsCandidate P first end s t) terms sorts
block-chosen P first end point region x [] terms places h c = subst (λ (ts : List Tree). AllZip (λ t s. IsCandidate P first end s t) ts []) (sym c) tt
block-chosen P first end point region x (s ∷ sorts) [] places h c = absurd c
block-chosen P first end point region x (s ∷ sorts) (t ∷ terms) places h c =
    let one = one-chosen P first end point region x s t places.0.0 places.0.1 places.0.2 h c.0 in
    (one, block-chosen P first end point (with_term x t region) (suc x) sorts terms places.1 (next-over P x s t region places.0.0 one.0 h) c.1)

-- outside a block that has the last places are the places before it
outside-one : (first end l : ℕ) → l < end → (nat_le first l && nat_lt l end) ≡ false → l < first
outside-one first end l h e = elim (cases_lt l first) [
  | inl less ↦ less
  | inr more ↦ absurd (clash (le-leb first l more) (lt-ltb l end h) e)
]
  where
    clash : {a b : Bool} → a ≡ true → b ≡ true → (a && b) ≡ false → ⊥
    clash {a} {b} p q k =
        let both : (true && true) ≡ false = subst (λ (x : Bool). (true && x) ≡ false) q (subst (λ (x : Bool). (x && b) ≡ false) p k) in
        cc

outside-leaves : (P : OfVariable) (first end : ℕ) → ((l : ℕ) (r : Sort) → P l r → l < end) → (leaves : List (ℕ × Sort)) → not (list_any (λ leaf. nat_le first leaf.0 && nat_lt leaf.0 end) leaves) ≡ true → EachLeaf P leaves → EachLeaf (λ l r. P l r × (l < first)) leaves
outside-leaves P first end low [] h k = tt
outside-leaves P first end low (leaf ∷ leaves) h k = go (nat_le first leaf.0 && nat_lt leaf.0 end) refl h (outside-leaves P first end low leaves)
  where
    go : (b : Bool) → (nat_le first leaf.0 && nat_lt leaf.0 end) ≡ b → not (b || list_any (λ leaf. nat_le first leaf.0 && nat_lt leaf.0 end) leaves) ≡ true → (not (list_any (λ leaf. nat_le first leaf.0 && nat_lt leaf.0 end) leaves) ≡ true → EachLeaf P leaves → EachLeaf (λ l r. P l r × (l < first)) leaves) → EachLeaf (λ l r. P l r × (l < first)) (leaf ∷ leaves)
    go true e n rest = absurd cc
    go false e n rest = ((k.0, outside-one first end leaf.0 (low leaf.0 leaf.1 k.0) e), rest n k.1)

pub candidate-before : (P : OfVariable) (first end : ℕ) (s : Sort) (t : Tree) → ((l : ℕ) (r : Sort) → P l r → l < end) → IsCandidate P first end s t → IsOf (λ l r. P l r × (l < first)) s t
candidate-before P first end s t low h =
    (over-from (λ l r. P l r × (l < first)) t (over-sorted P t h.0.0) (over-free P t h.0.0) (over-constants P t h.0.0) (outside-leaves P first end low (free_levels t) h.1 (over-leaves P t h.0.0)), h.0.1)

pub block-before : (P : OfVariable) (first end : ℕ) (point : List ℕ) (region : Tree) (sorts : List Sort) (terms : List Tree) → ((l : ℕ) (r : Sort) → P l r → l < end) → HavePlaces P point first sorts → IsOver P region → AreChosen first end point region first sorts terms → AllZip (λ t s. IsOf (λ l r. P l r × (l < first)) s t) terms sorts
block-before P first end point region sorts terms low places h c =
    zip-more (λ t s. IsCandidate P first end s t) (λ t s. IsOf (λ l r. P l r × (l < first)) s t) (λ t s k. candidate-before P first end s t low k) terms sorts
    (block-chosen P first end point region first sorts terms places h c)

-- the same in the words of the definitions: the variables are among the region's
abbrev pub IsLeafOf : Tree → OfVariable
IsLeafOf region l r = Contains (free_levels region) (l, r)

own-leaves : (region : Tree) → EachLeaf (IsLeafOf region) (free_levels region)
own-leaves region = recursion_from_All (Contains (free_levels region)) (free_levels region) (All-contains_itself (free_levels region))

pub over-itself : (region : Tree) (s : Sort) → IsTermOf region s → IsOf (IsLeafOf region) s region
over-itself region s h = over-from_term (IsLeafOf region) s region h (own-leaves region)

pub sort-at : (region : Tree) (x : ℕ) (s : Sort) → HasSortAt x s region → HasSort (IsLeafOf region) x s
sort-at region x s h r k = All-contains (λ leaf. leaf.0 ≡ x → leaf.1 ≡ s) (free_levels region) (x, r) h k refl

in-words : (P : OfVariable) (s : Sort) (t : Tree) → IsOf P s t → IsTermOf t s × All (λ leaf. P leaf.0 leaf.1) (free_levels t)
in-words P s t h = (term-from_over P s t h, All-from_recursion (λ leaf. P leaf.0 leaf.1) (free_levels t) (over-leaves P t h.0))

pub candidates-are_terms : CandidatesAreTerms
candidates-are_terms first end region x s h sort =
    All-from_recursion (λ t. IsTermOf t s × All (Contains (free_levels region)) (free_levels t)) (candidates first end region x)
    (each (candidates first end region x) (candidates-over (IsLeafOf region) first end region x s (sort-at region x s sort) (over-itself region BoolSort h).0))
  where
    each : (ts : List Tree) → AllByRecursion (IsCandidate (IsLeafOf region) first end s) ts → AllByRecursion (λ t. IsTermOf t s × All (Contains (free_levels region)) (free_levels t)) ts
    each [] k = tt
    each (t ∷ ts) k = (in-words (IsLeafOf region) s t k.0.0, each ts k.1)

pub chosen-are_terms : ChosenAreTerms
chosen-are_terms first end point region sorts terms h low lawful own values c =
    zip-more (λ t s. IsOf (λ l r. IsLeafOf region l r × (l < first)) s t)
    (λ t s. IsTermOf t s × All (λ leaf. Contains (free_levels region) leaf × (leaf.0 < first)) (free_levels t))
    (λ t s k. in-words (λ l r. IsLeafOf region l r × (l < first)) s t k) terms sorts
    (block-before (IsLeafOf region) first end point region sorts terms (λ l r k. All-contains (λ leaf. leaf.0 < end) (free_levels region) (l, r) low k)
    (places first sorts (recursion_from_All IsLawful sorts lawful) own values) (over-itself region BoolSort h).0 c)
  where
    places : (x : ℕ) (ss : List Sort) → AllByRecursion IsLawful ss → HasSortsFrom x ss region → HasValuesFrom point x ss → HavePlaces (IsLeafOf region) point x ss
    places x [] l o v = tt
    places x (s ∷ ss) l o v = ((sort-at region x s o.0, l.0, v.0), places (suc x) ss l.1 o.1 v.1)
