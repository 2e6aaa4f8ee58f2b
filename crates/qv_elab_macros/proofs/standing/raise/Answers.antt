use Rattle.std.proofs.Common.{ap, set, ◌∙◌}
use Rattle.qv_elab_macros.proofs.Peaks.{set-raised}
use Rattle.qv_elab_macros.proofs.standing.raise.Goals as goal

pub returns : goal.returns
returns c = ap (set c.args.below.now c.args.place) c.raised.ensures ∙ set-raised c.args.below.now c.args.place c.args.depth _ c.requires
