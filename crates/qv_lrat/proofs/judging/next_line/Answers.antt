use Rattle.std.proofs.Common.{Err, ap, sym, ◌∙◌}
use Rattle.qv_lrat.proofs.Limits.{limit-line, stops-failing, stops-reading, takes-line}
use Rattle.qv_lrat.proofs.judging.next_line.Goals as goal

pub returns-in-Ok-clause-takes : goal.returns-in-Ok-clause-takes
returns-in-Ok-clause-takes g c =
    takes-line g.C.Source.read_gives g.C.Source.left c.args.lines.now c.next_line.new.self c.args.proof.now c.next_line.new.source c.in-Ok.more c.in-Ok.ensures.took

pub returns-in-Err-clause-read : goal.returns-in-Err-clause-read
returns-in-Err-clause-read g c failed =
    let why = stops-failing c.in-Err.stop (sym c.halt_of.ensures ∙ cc) in
    c.in-Err.ensures.failed (ap Err why)

pub returns-in-Err-clause-limit : goal.returns-in-Err-clause-limit
returns-in-Err-clause-limit g c met =
    limit-line g.C.Source.read_gives g.C.Source.left c.args.lines.now c.next_line.new.self c.args.proof.now c.next_line.new.source c.in-Err.stop c.in-Err.ensures.calls c.in-Err.ensures.took (sym c.halt_of.ensures ∙ cc)

pub returns-in-Err-clause-no_write : goal.returns-in-Err-clause-no_write
returns-in-Err-clause-no_write g c wrote = stops-reading c.in-Err.stop (sym c.halt_of.ensures ∙ cc)
