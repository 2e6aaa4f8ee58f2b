use Rattle.std.proofs.Common.{ap, set, ◌∙◌}
use Rattle.qv_elab_macros.proofs.Peaks.{set-noted, noted-past}
use Rattle.qv_elab_macros.proofs.standing.note.Goals as goal

pub returns-then-place-depths : goal.returns-then-place-depths
returns-then-place-depths c =
    ap (set c.args.depths.now c.args.level) c.max.ensures ∙ set-noted c.args.depths.now c.args.level c.args.depth _ c.if-place-depths.true

pub returns-else-place-depths : goal.returns-else-place-depths
returns-else-place-depths c = noted-past c.args.depths.now c.args.level c.args.depth c.if-place-depths.false
