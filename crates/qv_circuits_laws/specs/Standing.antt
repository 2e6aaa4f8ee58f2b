-- Where a clause list stands: each tree with bits has as many as its sort, over variables that are
-- there, and so are the clauses'.
use Rattle.std.specs.Prelude.{◌≡◌, ℕ, ◌≤◌, Some, List}
use Rattle.std.specs.List.{AllByRecursion}
use Rattle.qv_words.specs.declared.sort.Sort.{Sort}
use Rattle.qv_words.specs.Sort.{width_of}
use Rattle.qv_words.specs.Tree.{tree_sort}
use Rattle.qv_words.specs.Sorted.{IsSorted}
use Rattle.qv_words.specs.Gate.{Lit}
use Rattle.qv_words.specs.Clauses.{Blasted, Blasting}
use Rattle.qv_circuits_laws.specs.CircuitLaws.{IsBefore, IsWord}

-- clauses over variables before this one
abbrev pub ClausesBefore : ℕ → List (List Lit) → Type 0
ClausesBefore n clauses = AllByRecursion (AllByRecursion (IsBefore n)) clauses

-- a tree with bits of its sort, over variables before this one
pub record Placed (n : ℕ) (k : Blasted) : Type 0 where
  pub sorted : IsSorted k.tree
  pub sort : Sort
  pub is : tree_sort k.tree ≡ Some sort
  pub word : IsWord (width_of sort) n k.bits

-- trees and clauses over variables before the next one, of which there are two at least
pub record Stands (b : Blasting) : Type 0 where
  pub low : 2 ≤ b.next
  pub known : AllByRecursion (Placed b.next) b.known
  pub clauses : ClausesBefore b.next b.clauses
