-- What pins the choice down: with the chosen terms put in, a region stays true at its point.
use Rattle.std.specs.Prelude.{◌≡◌, ℕ, suc, ◌+◌, ◌≤◌, true, List, [], ◌∷◌, length, All}
use Rattle.qv_words.specs.declared.sort.Sort.{Sort}
use Rattle.qv_words.specs.Tree.{Tree, IsQuantifierFree}
use Rattle.qv_words.specs.Sorted.{free_levels}
use Rattle.qv_words.specs.Choice.{is_outside, with_term, IsTrueAt, IsChosen, AreChosen}
use Rattle.qv_words.specs.Linked.{with_terms}

-- in the region the place x has this sort
abbrev pub HasSortAt : ℕ → Sort → Tree → Type 0
HasSortAt x s region = All (λ leaf. leaf.0 ≡ x → leaf.1 ≡ s) (free_levels region)

-- the places from x on have these sorts
abbrev pub HasSortsFrom : ℕ → List Sort → Tree → Type 0
HasSortsFrom x [] region = Unit {0}
HasSortsFrom x (s ∷ sorts) region = HasSortAt x s region × HasSortsFrom (suc x) sorts region

-- a chosen term has no quantifiers and no place of its block
abbrev pub ChosenTermsStandOutside : Type 0
ChosenTermsStandOutside =
    (first end : ℕ) (point : List ℕ) (region : Tree) (x : ℕ) (s : Sort) (t : Tree) → IsQuantifierFree region →
    IsChosen first end point region x s t → IsQuantifierFree t × (is_outside first end t ≡ true)

-- with the term that is chosen for one place, a region that is true at the point stays so
abbrev pub ChosenTermsKeepTruth : Type 0
ChosenTermsKeepTruth =
    (first end : ℕ) (point : List ℕ) (region : Tree) (x : ℕ) (s : Sort) (t : Tree) → IsQuantifierFree region →
    HasSortAt x s region → IsTrueAt point region → IsChosen first end point region x s t → IsTrueAt point (with_term x t region)

-- so does one with the terms that are chosen for the places of a block, from place x on
abbrev pub ChosenBlocksKeepTruth : Type 0
ChosenBlocksKeepTruth =
    (first end : ℕ) (point : List ℕ) (region : Tree) (x : ℕ) (sorts : List Sort) (terms : List Tree) → first ≤ x →
    x + length sorts ≤ end → IsQuantifierFree region → HasSortsFrom x sorts region → IsTrueAt point region →
    AreChosen first end point region x sorts terms → IsTrueAt point (with_terms x terms region)

-- the terms of a block are the only ones
abbrev pub OneChoice : Type 0
OneChoice =
    (first end : ℕ) (point : List ℕ) (region : Tree) (x : ℕ) (sorts : List Sort) (terms others : List Tree) →
    AreChosen first end point region x sorts terms → AreChosen first end point region x sorts others → terms ≡ others
