use Rattle.qv_cases_terms.specs.Leaves.{AreFitBelow, IsSortAt, IsBelow}
use Rattle.qv_cases_terms.proofs.leaf_sorts.are_leaves.Given as goal

abbrev pub invariant-terms : goal.invariant-terms
invariant-terms l = AreFitBelow (IsSortAt l.sorts) (IsBelow l.levels) l.store l.number
