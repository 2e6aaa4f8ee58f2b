use Rattle.std.proofs.Common.{◌+◌, ◌*◌, ◌≤◌, arith}
use Rattle.qv_words.specs.Routine.{stage_count}
use Rattle.qv_blast.proofs.Rooms.{repeated}
use Rattle.qv_blast.proofs.sizes.shift.Goals as goal

pub returns-clause-clauses : goal.returns-clause-clauses
returns-clause-clauses c =
    let rows : c.times-2.result.clauses ≤ 4 * (c.args.width * (stage_count c.args.width + 1)) =
    repeated 4 c.args.width c.saturating_add.result _ c.times.result.clauses _ c.times.ensures.clauses (omega (arith, c.stage_count-stages.ensures, c.saturating_add.ensures)) c.times-2.ensures.clauses in
    omega (arith, rows, c.saturating_sub.ensures, c.folded.ensures.clauses, c.plus.ensures.clauses)

pub returns-clause-lits : goal.returns-clause-lits
returns-clause-lits c =
    let rows : c.times-2.result.lits ≤ 12 * (c.args.width * (stage_count c.args.width + 1)) =
    repeated 12 c.args.width c.saturating_add.result _ c.times.result.lits _ c.times.ensures.lits (omega (arith, c.stage_count-stages.ensures, c.saturating_add.ensures)) c.times-2.ensures.lits in
    omega (arith, rows, c.saturating_sub.ensures, c.folded.ensures.lits, c.plus.ensures.lits)
