use Rattle.std.proofs.Common.{◌<◌, length}
use Rattle.std.specs.Prelude.{All}
use Rattle.qv_solve_cases.proofs.offers.known.Given as goal

abbrev pub invariant-ids : goal.invariant-ids
invariant-ids l = All (λ id. id < length l.store) l.known.items
