-- Which trees are sorted, and which leaves of a tree are free.
use Rattle.std.specs.Prelude.{◌≡◌, ℕ, ◌==◌, not, Option, Some, None, IfSome, IsSome, IsSomeAnd, List, [], ◌∷◌, ◌++◌, filter, All, slice_get, if◌then◌else◌}
use Rattle.qv_words.specs.declared.sort.Sort.{Sort}
use Rattle.qv_words.specs.declared.sort.Sort.TheVariants.{Bool}
use Rattle.qv_words.specs.Sort.{IsLawful, IsValueOf}
use Rattle.qv_words.specs.Tree.{Tree, Trees, Constant, Variable, Literal, Apply, ForAll, Exists, Nil, Cons, tree_sort}

-- a map from levels, with level l set to x
abbrev pub with_level : {A : Type 0} → (ℕ → Option A) → ℕ → A → ℕ → Option A
with_level e l x k = if k == l then Some x else e k

-- no level has anything
abbrev pub no_levels : {A : Type 0} → ℕ → Option A
no_levels k = None

-- a tree below quantifiers is sorted, where each level has the sort of its innermost quantifier:
-- each sort is lawful, each literal's value is of its sort, each application has a rank, each
-- quantifier's body is Bool, and each variable below a quantifier of its level has that
-- quantifier's sort
abbrev mutual
  pub IsSortedBelow : (ℕ → Option Sort) → Tree → Type 0
  IsSortedBelow levels (Constant i s) = IsLawful s
  IsSortedBelow levels (Variable l s) = IsLawful s × IfSome (levels l) (λ bound. s ≡ bound)
  IsSortedBelow levels (Literal s n) = IsLawful s × IsValueOf n s
  IsSortedBelow levels (Apply o args) = AreSortedBelow levels args × IsSome (tree_sort (Apply o args))
  IsSortedBelow levels (ForAll l s body) =
      IsLawful s × IsSortedBelow (with_level levels l s) body × (tree_sort body ≡ Some Bool)
  IsSortedBelow levels (Exists l s body) =
      IsLawful s × IsSortedBelow (with_level levels l s) body × (tree_sort body ≡ Some Bool)

  pub AreSortedBelow : (ℕ → Option Sort) → Trees → Type 0
  AreSortedBelow levels Nil = Unit {0}
  AreSortedBelow levels (Cons t ts) = IsSortedBelow levels t × AreSortedBelow levels ts

-- a tree is sorted
abbrev pub IsSorted : Tree → Type 0
IsSorted = IsSortedBelow no_levels

-- the constants of a tree, each with its index and sort, in the order of the leaves
abbrev mutual
  pub constants_of : Tree → List (ℕ × Sort)
  constants_of (Constant i s) = (i, s) ∷ []
  constants_of (Variable l s) = []
  constants_of (Literal s n) = []
  constants_of (Apply o args) = constants_of_all args
  constants_of (ForAll l s body) = constants_of body
  constants_of (Exists l s body) = constants_of body

  pub constants_of_all : Trees → List (ℕ × Sort)
  constants_of_all Nil = []
  constants_of_all (Cons t ts) = constants_of t ++ constants_of_all ts

-- the variables of a body that a quantifier of level l leaves free
abbrev pub but_level : ℕ → List (ℕ × Sort) → List (ℕ × Sort)
but_level l leaves = filter (λ leaf. not (leaf.0 == l)) leaves

-- the free variables of a tree, each with its level and sort, in the order of the leaves
abbrev mutual
  pub free_levels : Tree → List (ℕ × Sort)
  free_levels (Constant i s) = []
  free_levels (Variable l s) = (l, s) ∷ []
  free_levels (Literal s n) = []
  free_levels (Apply o args) = free_levels_of_all args
  free_levels (ForAll l s body) = but_level l (free_levels body)
  free_levels (Exists l s body) = but_level l (free_levels body)

  pub free_levels_of_all : Trees → List (ℕ × Sort)
  free_levels_of_all Nil = []
  free_levels_of_all (Cons t ts) = free_levels t ++ free_levels_of_all ts

-- a list has a value of its sort for each constant of the tree, and a map for each free variable
pub record HasValues (c : List ℕ) (e : ℕ → Option ℕ) (t : Tree) : Type 0 where
  pub constants : All (λ leaf. IsSomeAnd (slice_get c leaf.0) (λ v. IsValueOf v leaf.1)) (constants_of t)
  pub levels : All (λ leaf. IsSomeAnd (e leaf.0) (λ v. IsValueOf v leaf.1)) (free_levels t)
