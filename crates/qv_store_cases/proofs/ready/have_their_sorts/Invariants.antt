use Rattle.qv_cases_terms.specs.Leaves.{AreFitBelow, IsAny, IsPutAt}
use Rattle.qv_store_cases.proofs.ready.have_their_sorts.Given as goal

abbrev pub invariant-terms : goal.invariant-terms
invariant-terms l = AreFitBelow IsAny (IsPutAt l.store l.terms) l.store l.number
