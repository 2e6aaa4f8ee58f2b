-- A term without quantifiers that has a sort is sorted, where its leaves' sorts are lawful.
use Rattle.std.proofs.Common.{◌≡◌, ℕ, List, Some, is_some, ap, All}
use Rattle.std.specs.List.{AllByRecursion}
use Rattle.std.proofs.lemmas.List.Elements.{recursion_from_All}
use Rattle.qv_words.specs.declared.sort.Sort.{Sort}
use Rattle.qv_words.specs.Sort.{IsLawful}
use Rattle.qv_words.specs.Tree.{tree_sort, tree_sorts, IsQuantifierFree, AreQuantifierFree}
use Rattle.qv_words.specs.Sorted.{IsSorted, AreSortedBelow, no_levels, constants_of, constants_of_all, free_levels, free_levels_of_all}
use Rattle.qv_words.proofs.Leaves.{front, back}
use Rattle.qv_words.proofs.Ranks.{rank_parts, sorts_parts}
use Rattle.qv_terms.specs.declared.term.Term.{Term, Const, Var, Lit, App', All', Ex', Row_of-Term, end_of-Term, more_of-Term}
use Rattle.qv_terms.specs.View.{tree, row_trees}

abbrev IsLawfulLeaf : ℕ × Sort → Type 0
IsLawfulLeaf leaf = IsLawful leaf.1

mutual
  sorted : (t : Term) (s : Sort) → IsQuantifierFree (tree t) → AllByRecursion IsLawfulLeaf (constants_of (tree t)) → AllByRecursion IsLawfulLeaf (free_levels (tree t)) → tree_sort (tree t) ≡ Some s → IsSorted (tree t)
  sorted (Const i r) s plain g h e = g.0
  sorted (Var l r) s plain g h e = (h.0, tt)
  sorted (Lit w) s plain g h e = (w.lawful, w.in_range)
  sorted (App' o shape kids) s plain g h e =
      (sorted_each kids (rank_parts o (row_trees kids) s e).0 plain g h (rank_parts o (row_trees kids) s e).1, ap is_some e)
  sorted (All' l r place body) s plain g h e = absurd plain
  sorted (Ex' l r place body) s plain g h e = absurd plain

  sorted_each : {n : _} (row : Row_of-Term n) (sorts : List Sort) → AreQuantifierFree (row_trees row) → AllByRecursion IsLawfulLeaf (constants_of_all (row_trees row)) → AllByRecursion IsLawfulLeaf (free_levels_of_all (row_trees row)) → tree_sorts (row_trees row) ≡ Some sorts → AreSortedBelow no_levels (row_trees row)
  sorted_each end_of-Term sorts plain g h e = tt
  sorted_each (more_of-Term t rest) sorts plain g h e =
      let parts = sorts_parts (tree t) (row_trees rest) sorts e in (
        sorted t parts.0 plain.0 (front IsLawfulLeaf (constants_of (tree t)) (constants_of_all (row_trees rest)) g) (front IsLawfulLeaf (free_levels (tree t)) (free_levels_of_all (row_trees rest)) h) parts.2,
        sorted_each rest parts.1 plain.1 (back IsLawfulLeaf (constants_of (tree t)) (constants_of_all (row_trees rest)) g) (back IsLawfulLeaf (free_levels (tree t)) (free_levels_of_all (row_trees rest)) h) parts.3,
      )

-- a term without quantifiers that has a sort is sorted
pub sorted_term : (t : Term) (s : Sort) → IsQuantifierFree (tree t) → All (λ leaf. IsLawful leaf.1) (constants_of (tree t)) → All (λ leaf. IsLawful leaf.1) (free_levels (tree t)) → tree_sort (tree t) ≡ Some s → IsSorted (tree t)
sorted_term t s plain g h e =
    sorted t s plain (recursion_from_All IsLawfulLeaf (constants_of (tree t)) g) (recursion_from_All IsLawfulLeaf (free_levels (tree t)) h) e
