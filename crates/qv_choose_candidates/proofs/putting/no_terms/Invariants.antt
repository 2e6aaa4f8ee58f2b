-- none so far
use Rattle.std.proofs.Common.{◌≡◌, length}
use Rattle.qv_choose_clauses.specs.Placing.{NothingPut}
use Rattle.qv_choose_candidates.proofs.putting.no_terms.Given as goal

abbrev pub invariant-places : goal.invariant-places
invariant-places l = record { many : length l.none.items ≡ l._count; none : NothingPut l.none.items }
