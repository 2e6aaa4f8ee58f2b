use Rattle.std.proofs.Common.{[], take}
use Rattle.std.specs.Prelude.{All}
use Rattle.qv_entries.specs.Holding.{IsAskable}
use Rattle.qv_solve_cases.proofs.covering.are_true.Given as goal

abbrev pub invariant-each : goal.invariant-each
invariant-each l = All (IsAskable l.store []) (take l.id-index l.ids)
