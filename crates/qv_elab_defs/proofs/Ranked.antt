-- Applications of sorted trees.
use Rattle.std.proofs.Common.{◌≡◌, ◌<◌, ℕ, true, Option, Some, None, List, [], ◌∷◌, map, length, refl, sym, ap, subst, ◌∙◌}
use Rattle.std.specs.Prelude.{All, IsSome, is_some, is_none, option_and_then}
use Rattle.std.specs.List.{AllByRecursion}
use Rattle.qv_words.specs.declared.sort.Sort.{Sort}
use Rattle.qv_words.specs.declared.op.Op.{Op}
use Rattle.qv_words.specs.Rank.{result_sort}
use Rattle.qv_words.specs.Tree.{Tree, Constant, Variable, Literal, Apply, ForAll, Exists, Cons, tree_sort, closed_sort}
use Rattle.qv_words.specs.Sorted.{IsSorted, IsSortedBelow, AreSortedBelow, no_levels}
use Rattle.qv_store.specs.Nodes.{tree_at, trees_at}
use Rattle.qv_store.specs.Walks.{named}
use Rattle.qv_store.specs.Stores.{AreShared}
use Rattle.std.proofs.lemmas.List.Elements.{recursion_from_All}
use Rattle.qv_sorts.specs.Faults.{fault_of}
use Rattle.qv_sorts.proofs.Agreement.{agreement}
use Rattle.qv_elab_defs.specs.Applying.{sort_of, in_trees}
use Rattle.qv_elab_defs.proofs.Opened.{sorts-in_trees, of-bool, there}

-- a sorted tree has a sort
pub sorted-sort : (t : Tree) (M : ℕ → Option Sort) → IsSortedBelow M t → tree_sort t ≡ Some (sort_of t)
sorted-sort (Constant i s) M h = refl
sorted-sort (Variable l s) M h = refl
sorted-sort (Literal s n) M h = refl
sorted-sort (Apply o ts) M h = there (tree_sort (Apply o ts)) h.1
sorted-sort (ForAll l s body) M h = there (closed_sort (tree_sort body)) (of-bool (tree_sort body) h.2)
sorted-sort (Exists l s body) M h = there (closed_sort (tree_sort body)) (of-bool (tree_sort body) h.2)

pub sorted-sorts : (ts : List Tree) → AllByRecursion IsSorted ts → AllByRecursion (λ t. tree_sort t ≡ Some (sort_of t)) ts
sorted-sorts [] h = tt
sorted-sorts (t ∷ ts) h = (sorted-sort t no_levels h.0, sorted-sorts ts h.1)

sorted-in_trees : (ts : List Tree) → AllByRecursion IsSorted ts → AreSortedBelow no_levels (in_trees ts)
sorted-in_trees [] h = tt
sorted-in_trees (t ∷ ts) h = (h.0, sorted-in_trees ts h.1)

-- the sort of an application
pub sort-apply : (o : Op) (ts : List Tree) → AllByRecursion IsSorted ts → tree_sort (Apply o (in_trees ts)) ≡ result_sort o (map (λ t. sort_of t) ts)
sort-apply o ts h = ap (λ (q : Option (List Sort)). option_and_then (result_sort o) q) (sorts-in_trees ts (sorted-sorts ts h))

-- an application without a rank fault is sorted
pub sorted-apply : (o : Op) (ts : List Tree) → AllByRecursion IsSorted ts → fault_of o (map (λ t. sort_of t) ts) ≡ None → IsSorted (Apply o (in_trees ts))
sorted-apply o ts h e =
    let ranked : is_some (result_sort o (map (λ t. sort_of t) ts)) ≡ true = sym (agreement o (map (λ t. sort_of t) ts)) ∙ ap (λ f. is_none f) e in
    (sorted-in_trees ts h, subst (λ (q : Option Sort). IsSome q) (sym (sort-apply o ts h)) ranked)

-- the trees of numbers as a list
pub trees_at-named : (trees : List Tree) (ns : List ℕ) → trees_at trees ns ≡ in_trees (named trees ns)
trees_at-named trees [] = refl
trees_at-named trees (n ∷ ns) = ap (Cons (tree_at trees n)) (trees_at-named trees ns)

-- trees of a store
pub sorted-each : (trees : List Tree) → AreShared trees → (ns : List ℕ) → AllByRecursion (λ n. n < length trees) ns → AllByRecursion IsSorted (named trees ns)
sorted-each trees shared [] h = tt
sorted-each trees shared (n ∷ ns) h = (shared.sorted n h.0, sorted-each trees shared ns h.1)

pub sorted-named : (trees : List Tree) → AreShared trees → (o : Op) (ns : List ℕ) → All (λ n. n < length trees) ns → fault_of o (map (λ t. sort_of t) (named trees ns)) ≡ None → IsSorted (Apply o (in_trees (named trees ns)))
sorted-named trees shared o ns h e = sorted-apply o (named trees ns) (sorted-each trees shared ns (recursion_from_All (λ n. n < length trees) ns h)) e
