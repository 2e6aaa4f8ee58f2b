use Rattle.qv_cases_terms.specs.Leaves.{AreFitBelow, IsAny, IsOfLevel}
use Rattle.qv_cases_terms.proofs.fitting.have_level_sort.Given as goal

abbrev pub invariant-terms : goal.invariant-terms
invariant-terms l = AreFitBelow IsAny (IsOfLevel l.level l.sort) l.store l.number
