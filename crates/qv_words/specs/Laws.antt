-- What pins the definitions down.
use Rattle.std.specs.Prelude.{◌≡◌, ℕ, ◌<◌, ◌^◌, Option, Some, IsSomeAnd, List, All, slice_get}
use Rattle.std.specs.List.{AllZip}
use Rattle.qv_words.specs.declared.sort.Sort.{Sort}
use Rattle.qv_words.specs.declared.op.Op.{Op}
use Rattle.qv_words.specs.Sort.{IsLawful, IsValueOf}
use Rattle.qv_words.specs.Rank.{result_sort}
use Rattle.qv_words.specs.Op.{op_value}
use Rattle.qv_words.specs.Tree.{Tree, tree_sort, IsQuantifierFree}
use Rattle.qv_words.specs.Sorted.{IsSorted, HasValues, constants_of, free_levels}
use Rattle.qv_words.specs.Meaning.{Means}
use Rattle.qv_words.specs.Replacement.{replaced, HasTheirSorts, AreSortedPut, TakesMeanings}

-- a lawful sort has the values 0 and 1, and none of 2^128 or more
abbrev pub SortsHaveValues : Type 0
SortsHaveValues = (s : Sort) → IsLawful s → IsValueOf 0 s × IsValueOf 1 s × ((v : ℕ) → IsValueOf v s → v < 2 ^ 128)

-- a sorted tree has a lawful sort
abbrev pub SortedTreesHaveSorts : Type 0
SortedTreesHaveSorts = (t : Tree) → IsSorted t → IsSomeAnd (tree_sort t) IsLawful

-- an operator at values of sorts that have a rank gives a value of the rank's sort
abbrev pub OpsStayInSort : Type 0
OpsStayInSort =
    (o : Op) (sorts : List Sort) (s : Sort) (args : List ℕ) → All IsLawful sorts → AllZip IsValueOf args sorts →
    result_sort o sorts ≡ Some s → IsLawful s × IsValueOf (op_value o sorts args) s

-- a value of its sort that a tree means, and the only one
pub record IsItsMeaning (c : List ℕ) (e : ℕ → Option ℕ) (t : Tree) (s : Sort) (v : ℕ) : Type 0 where
  pub sort : tree_sort t ≡ Some s
  pub lawful : IsLawful s
  pub in_sort : IsValueOf v s
  pub means : Means c e t v
  pub only : (w : ℕ) → Means c e t w → w ≡ v

-- a sorted tree with values for its free leaves means exactly one value, and it is of its sort
abbrev pub SortedTreesMeanOneValue : Type 0
SortedTreesMeanOneValue =
    (t : Tree) (c : List ℕ) (e : ℕ → Option ℕ) → IsSorted t → HasValues c e t →
    (s : Sort) × (v : ℕ) × IsItsMeaning c e t s v

-- lists and maps that agree on the free leaves give the same meaning
abbrev pub FreeLeavesDecide : Type 0
FreeLeavesDecide =
    (t : Tree) (c d : List ℕ) (e f : ℕ → Option ℕ) (v : ℕ) →
    All (λ leaf. slice_get c leaf.0 ≡ slice_get d leaf.0) (constants_of t) →
    All (λ leaf. e leaf.0 ≡ f leaf.0) (free_levels t) →
    Means c e t v → Means d f t v

-- a tree with trees of equal sorts put in has the same sort, and means exactly what the tree itself
-- means where the variables have what those trees mean
pub record KeepsMeaning (c : List ℕ) (b : ℕ → Option Tree) (e f : ℕ → Option ℕ) (t : Tree) : Type 0 where
  pub sort : tree_sort (replaced b t) ≡ tree_sort t
  pub meaning : (v : ℕ) → Means c f t v → Means c e (replaced b t) v
  pub back : (v : ℕ) → Means c e (replaced b t) v → Means c f t v

abbrev pub ReplacementKeepsMeaning : Type 0
ReplacementKeepsMeaning =
    (t : Tree) (c : List ℕ) (b : ℕ → Option Tree) (e f : ℕ → Option ℕ) → IsQuantifierFree t → HasTheirSorts b t →
    TakesMeanings c b e f t → KeepsMeaning c b e f t

-- a sorted tree with sorted trees of equal sorts put in is sorted
abbrev pub ReplacementKeepsSorted : Type 0
ReplacementKeepsSorted =
    (t : Tree) (b : ℕ → Option Tree) → IsQuantifierFree t → HasTheirSorts b t → IsSorted t → AreSortedPut b t →
    IsSorted (replaced b t)
