use Rattle.std.proofs.Common.{◌≡◌, ◌≤◌, ◌-◌, ℕ, List, length, take, drop}
use Rattle.qv_words.specs.Tree.{Tree}
use Rattle.qv_words.specs.Clauses.{with_each_node}
use Rattle.qv_cnf.specs.Literal.{Literal}
use Rattle.qv_store.specs.Walks.{named}
use Rattle.qv_blast.specs.Blasters.{blasting_of, IsGrown, IsReady, Listed}
use Rattle.qv_blast.proofs.blaster.blast_terms.Given as goal

-- what is left leads to the same end
pub record Left (trees : List Tree) (ids : List ℕ) (old bits : List (List Literal)) (first s : Listed) : Type 0 where
  pub ready : IsReady trees ids bits s
  pub end : with_each_node (blasting_of trees ids old first) (drop (length old) (named trees ids)) ≡ with_each_node (blasting_of trees ids bits s) (drop (length bits) (named trees ids))
  pub more : length old ≤ length bits
  pub front : take (length old) bits ≡ old
  pub grown : IsGrown first s

abbrev pub invariant-terms : goal.invariant-terms
invariant-terms l = Left l.store l.terms l.fn.bits l.bits l.fn.lists l.lists

abbrev pub decreases-terms : goal.decreases-terms
decreases-terms l = length l.terms - length l.bits
