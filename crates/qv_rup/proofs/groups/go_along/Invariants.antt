use Rattle.std.proofs.Common.{◌-◌, length}
use Rattle.qv_rup.proofs.Grouped.{Going}
use Rattle.qv_rup.proofs.groups.go_along.Given as goal

abbrev pub invariant-going : goal.invariant-going
invariant-going l = Going l.clauses.live l.pivot.lit l.initial.marks l.hints l.from l.place l.pivot.kept l.groups.is_open l.marks l.groups.ids

abbrev pub decreases-going : goal.decreases-going
decreases-going l = length l.hints - l.place
