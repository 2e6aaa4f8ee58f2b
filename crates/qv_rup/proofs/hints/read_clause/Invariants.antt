use Rattle.std.proofs.Common.{◌≡◌, None, drop}
use Rattle.qv_rup.proofs.Scanned.{scan}
use Rattle.qv_rup.proofs.hints.read_clause.Given as goal

-- what is left gives what the whole gives
abbrev pub invariant-loop-lit : goal.invariant-loop-lit
invariant-loop-lit l = scan l.marks (drop l.lit-index l.lits) l.found ≡ scan l.marks l.lits None
