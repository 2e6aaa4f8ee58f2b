-- the chain of the first outlines
use Rattle.std.proofs.Common.{◌≡◌, drop}
use Rattle.qv_elab_apply.specs.Outlines.{joined_left}
use Rattle.qv_elab_apply.proofs.outlines.joined_left.Given as goal

abbrev pub invariant-outlines : goal.invariant-outlines
invariant-outlines l = joined_left l.op l.fn.first l.others ≡ joined_left l.op l.chain (drop l.outline-index l.others)
