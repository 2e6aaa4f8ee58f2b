use Rattle.qv_elab_defs.proofs.Depths.{uses-fail_by_depth}
use Rattle.qv_elab_defs.proofs.laws.uses_fail_by_depth.Goals as goal

pub returns : goal.returns
returns _ = uses-fail_by_depth
