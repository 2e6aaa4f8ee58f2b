use Rattle.qv_cases_terms.specs.Leaves.{AreFitBelow, IsWordAt}
use Rattle.qv_cases_terms.proofs.fitting.have_words.Given as goal

abbrev pub invariant-terms : goal.invariant-terms
invariant-terms l = AreFitBelow (IsWordAt l.consts) (IsWordAt l.places) l.store l.number
