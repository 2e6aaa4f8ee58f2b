-- When asserted formulas hold together.
use Rattle.std.specs.Prelude.{◌≡◌, ℕ, IsSomeAnd, Some, List, [], ◌∷◌, ◌++◌, All, AllPairs, slice_get}
use Rattle.qv_words.specs.declared.sort.Sort.{Sort}
use Rattle.qv_words.specs.declared.sort.Sort.TheVariants.{Bool}
use Rattle.qv_words.specs.Sort.{IsValueOf}
use Rattle.qv_words.specs.Tree.{Tree, tree_sort}
use Rattle.qv_words.specs.Sorted.{IsSorted, constants_of, free_levels, no_levels}
use Rattle.qv_words.specs.Meaning.{Means}

-- the constants of the formulas, each with its index and sort
abbrev pub constants_of_each : List Tree → List (ℕ × Sort)
constants_of_each [] = []
constants_of_each (t ∷ ts) = constants_of t ++ constants_of_each ts

-- c has at the index of each constant a value of its sort
abbrev pub HasConstantsOf : List ℕ → List Tree → Type 0
HasConstantsOf c formulas = All (λ leaf. IsSomeAnd (slice_get c leaf.0) (λ v. IsValueOf v leaf.1)) (constants_of_each formulas)

-- under c's values for the constants every formula means 1
abbrev pub HoldUnder : List ℕ → List Tree → Type 0
HoldUnder c formulas = All (λ t. Means c no_levels t 1) formulas

-- the formulas hold together for some values of the free constants
abbrev pub AreTrue : List Tree → Type 0
AreTrue formulas = (c : List ℕ) × HasConstantsOf c formulas × HoldUnder c formulas

-- what may be asserted: a sorted tree of sort Bool without free variables
pub record IsAssertion (t : Tree) : Type 0 where
  pub sorted : IsSorted t
  pub bool : tree_sort t ≡ Some Bool
  pub closed : free_levels t ≡ []

-- constants of one index have one sort
abbrev pub HaveOneSort : List Tree → Type 0
HaveOneSort formulas = AllPairs (λ a b. a.0 ≡ b.0 → a.1 ≡ b.1) (constants_of_each formulas)
