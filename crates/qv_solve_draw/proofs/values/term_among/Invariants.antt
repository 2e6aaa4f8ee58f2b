-- none of the terms so far is of the place
use Rattle.qv_solve_draw.proofs.Valued.{IsLookedFor}
use Rattle.qv_solve_draw.proofs.values.term_among.Given as goal

abbrev pub invariant-terms : goal.invariant-terms
invariant-terms l = IsLookedFor l._store l.terms l.place l.term-index
