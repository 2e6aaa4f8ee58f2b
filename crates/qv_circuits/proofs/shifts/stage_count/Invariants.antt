use Rattle.std.proofs.Common.{◌≡◌, ◌≤◌, ◌-◌, ◌^◌}
use Rattle.qv_words.specs.Routine.{least_log, stage_count}
use Rattle.qv_circuits.proofs.shifts.stage_count.Given as goal

-- the least is sought from here on
abbrev pub invariant-stages : goal.invariant-stages
invariant-stages l = (l.places ≡ 2 ^ l.count) × (l.count ≤ l.width) × (stage_count l.width ≡ least_log (l.width - l.count) l.count l.width)

abbrev pub decreases-stages : goal.decreases-stages
decreases-stages l = l.width - l.count
