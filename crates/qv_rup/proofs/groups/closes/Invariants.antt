use Rattle.std.proofs.Common.{◌≡◌, drop}
use Rattle.qv_rup.proofs.Grouped.{closing}
use Rattle.qv_rup.proofs.groups.closes.Given as goal

-- what is left closes it where the whole does
abbrev pub invariant-looking : goal.invariant-looking
invariant-looking l = closing l.marks l.pivot (drop l.lit-index l.lits) ≡ closing l.marks l.pivot l.lits
