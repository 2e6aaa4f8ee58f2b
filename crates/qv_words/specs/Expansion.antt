-- Expansion lists: expansion trees (Miller, A compact representation of proofs, 1987), line by
-- line.
use Rattle.std.specs.Prelude.{◌≡◌, ℕ, zero, suc, ◌<◌, ◌==◌, Option, Some, None, IsSomeAnd, List, [], ◌∷◌, ◌++◌, length, slice_get, All, map, filter}
use Rattle.qv_words.specs.declared.sort.Sort.{Sort}
use Rattle.qv_words.specs.declared.sort.Sort.TheVariants.{Bool as BoolSort}
use Rattle.qv_words.specs.Tree.{Tree, Variable}
use Rattle.qv_words.specs.Sorted.{free_levels}
use Rattle.qv_words.specs.Replacement.{replaced}
use Rattle.qv_words.specs.Problem.{Problem, Place, Quantifier, Existential, Universal}
use Rattle.qv_words.specs.Skolem.{IsTermOf}

-- a line below its parent, which is an earlier line's number or 0 for the root: the universal there
-- is a term, or the existential there is the eigenvariable of the line's number
pub data ExpansionLine : Type 0 where
  Instance : (parent : ℕ) (term : Tree) → ExpansionLine
  Eigen : (parent : ℕ) → ExpansionLine

-- what is known of a line: what stands for each place on its path, and the sort of its
-- eigenvariable
pub record Grown : Type 0 where
  pub path : List Tree
  pub eigen : Option Sort

abbrev pub root : Grown
root = record { path = []; eigen = None }

-- a line by its number
abbrev pub line_numbered : List Grown → ℕ → Option Grown
line_numbered grown zero = Some root
line_numbered grown (suc n) = slice_get grown n

abbrev pub path_of : Option Grown → List Tree
path_of None = []
path_of (Some g) = g.path

abbrev pub sort_at : Problem → ℕ → Sort
sort_at p j = sort_of_place (slice_get p.prefix j)
  where
    sort_of_place : Option Place → Sort
    sort_of_place None = BoolSort
    sort_of_place (Some place) = place.sort

-- the next line, behind those that are known
abbrev pub grow : Problem → List Grown → ExpansionLine → Grown
grow p grown (Instance parent term) = record { path = path_of (line_numbered grown parent) ++ term ∷ []; eigen = None }
grow p grown (Eigen parent) =
    let path = path_of (line_numbered grown parent) in
    let s = sort_at p (length path) in
    record { path = path ++ Variable (suc (length grown)) s ∷ []; eigen = Some s }

abbrev pub grown_behind : Problem → List Grown → List ExpansionLine → List Grown
grown_behind p grown [] = grown
grown_behind p grown (line ∷ lines) = grown_behind p (grown ++ grow p grown line ∷ []) lines

-- a variable of an instance's term: an eigenvariable of an earlier line, of its sort
abbrev pub IsEarlierEigen : List Grown → ℕ × Sort → Type 0
IsEarlierEigen grown leaf = (0 < leaf.0) × IsSomeAnd (line_numbered grown leaf.0) (λ g. g.eigen ≡ Some leaf.1)

-- below this path a quantifier of this kind stands
abbrev pub StandsAt : Problem → Quantifier → List Tree → (Sort → Type 0) → Type 0
StandsAt p q path P = IsSomeAnd (slice_get p.prefix (length path)) (λ place. (place.quantifier ≡ q) × P place.sort)

-- a line that may come next: its parent is known and no leaf, its quantifier is the one there, and
-- its term has the place's sort and uses eigenvariables of earlier lines only
abbrev pub IsLine : Problem → List Grown → ExpansionLine → Type 0
IsLine p grown (Instance parent term) =
    IsSomeAnd (line_numbered grown parent) (λ g. StandsAt p Universal g.path (IsTermOf term))
    × All (IsEarlierEigen grown) (free_levels term)
IsLine p grown (Eigen parent) =
    IsSomeAnd (line_numbered grown parent) (λ g. StandsAt p Existential g.path (λ s. Unit {0}))

abbrev pub AreLines : Problem → List Grown → List ExpansionLine → Type 0
AreLines p grown [] = Unit {0}
AreLines p grown (line ∷ lines) = IsLine p grown line × AreLines p (grown ++ grow p grown line ∷ []) lines

-- each line may come where it does
abbrev pub IsExpansion : Problem → List ExpansionLine → Type 0
IsExpansion p lines = AreLines p [] lines

-- the lines whose path has every place, the root among them where there are no places
abbrev pub full : Problem → List Grown → List Grown
full p grown = filter (λ g. length g.path == length p.prefix) grown

-- the matrix at each leaf, in the order of the lines
abbrev pub leaves_of : Problem → List ExpansionLine → List Tree
leaves_of p lines = map (λ g. replaced (slice_get g.path) p.matrix) (full p (root ∷ grown_behind p [] lines))
