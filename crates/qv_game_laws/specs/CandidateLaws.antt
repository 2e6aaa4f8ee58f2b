-- What is chosen for a block: terms of its sorts.
use Rattle.std.specs.Prelude.{◌≡◌, ℕ, suc, ◌<◌, Some, List, [], ◌∷◌, slice_get, All}
use Rattle.std.specs.List.{AllZip, Contains}
use Rattle.qv_words.specs.declared.sort.Sort.{Sort}
use Rattle.qv_words.specs.declared.sort.Sort.TheVariants.{Bool as BoolSort}
use Rattle.qv_words.specs.Sort.{IsLawful, IsValueOf}
use Rattle.qv_words.specs.Tree.{Tree}
use Rattle.qv_words.specs.Sorted.{free_levels}
use Rattle.qv_words.specs.Choice.{candidates, AreChosen}
use Rattle.qv_words.specs.Skolem.{IsTermOf}
use Rattle.qv_words.specs.ChoiceLaws.{HasSortAt, HasSortsFrom}

-- each candidate for a place is a term of its sort, whose variables are among the region's
abbrev pub CandidatesAreTerms : Type 0
CandidatesAreTerms =
    (first end : ℕ) (region : Tree) (x : ℕ) (s : Sort) → IsTermOf region BoolSort → HasSortAt x s region →
    All (λ t. IsTermOf t s × All (Contains (free_levels region)) (free_levels t)) (candidates first end region x)

-- what a point has at the places from x on are values of these sorts
abbrev pub HasValuesAt : List ℕ → ℕ → Sort → Type 0
HasValuesAt point x s = (v : ℕ) → slice_get point x ≡ Some v → IsValueOf v s

abbrev pub HasValuesFrom : List ℕ → ℕ → List Sort → Type 0
HasValuesFrom point x [] = Unit {0}
HasValuesFrom point x (s ∷ sorts) = HasValuesAt point x s × HasValuesFrom point (suc x) sorts

-- where no place of the region is behind the block, the terms that are chosen for the block are
-- terms of its sorts, whose variables are places of the region before the block
abbrev pub ChosenAreTerms : Type 0
ChosenAreTerms =
    (first end : ℕ) (point : List ℕ) (region : Tree) (sorts : List Sort) (terms : List Tree) → IsTermOf region BoolSort →
    All (λ leaf. leaf.0 < end) (free_levels region) → All IsLawful sorts → HasSortsFrom first sorts region →
    HasValuesFrom point first sorts → AreChosen first end point region first sorts terms →
    AllZip (λ t s. IsTermOf t s × All (λ leaf. Contains (free_levels region) leaf × (leaf.0 < first)) (free_levels t)) terms sorts
