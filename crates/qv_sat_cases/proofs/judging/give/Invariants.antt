use Rattle.std.proofs.Common.{length, ◌-◌}
use Rattle.qv_sat_cases.proofs.judging.give.Given as goal

abbrev pub decreases-loop-place : goal.decreases-loop-place
decreases-loop-place l = length l.originals - l.place
