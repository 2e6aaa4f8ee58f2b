-- the chain of the last outlines
use Rattle.std.proofs.Common.{◌≡◌, ◌<◌, Ok, drop, length}
use Rattle.qv_elab_apply.specs.Outlines.{all_joined_right}
use Rattle.qv_elab_apply.proofs.outlines.joined_right.Given as goal

abbrev pub invariant-outlines : goal.invariant-outlines
invariant-outlines l = record { within : l.left < length l.outlines; chain : all_joined_right l.op (drop l.left l.outlines) ≡ Ok l.chain }

abbrev pub decreases-outlines : goal.decreases-outlines
decreases-outlines l = l.left
