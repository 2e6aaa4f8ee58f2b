use Rattle.std.proofs.Common.{sym, ◌∙◌}
use Rattle.qv_words.specs.declared.op.Answer.TheVariants.{Sat, Unsat, Unknown}
use Rattle.qv_cert.specs.CertReader.{to_give}
use Rattle.qv_check.proofs.Opened.{opened-leads}
use Rattle.qv_check_lines.proofs.TakenBy.{took-on}
use Rattle.qv_check.proofs.section.check_section.Goals as goal

pub returns-in-Ok-Unknown-clause-verdict : goal.returns-in-Ok-Unknown-clause-verdict
returns-in-Ok-Unknown-clause-verdict g c task about same =
    let old = to_give c.args.reader.now.rest (g.S.Source.left c.args.source.now) in
    let new = to_give c.open.new.reader.rest (g.S.Source.left c.open.new.source) in
    opened-leads task c.in-Ok-Unknown.field-0 Unknown c.args.reader.now.given c.open.new.reader.given old new c.in-Ok-Unknown.field-0-is (c.in-Ok-Unknown.ensures.goes task same)
    c.close.new.reader.given (to_give c.close.new.reader.rest (g.S.Source.left c.close.new.source)) c.close.result
    (c.close.ensures.verdict task)

pub returns-in-Ok-Sat-clause-verdict : goal.returns-in-Ok-Sat-clause-verdict
returns-in-Ok-Sat-clause-verdict g c task about same =
    let old = to_give c.args.reader.now.rest (g.S.Source.left c.args.source.now) in
    let new = to_give c.open.new.reader.rest (g.S.Source.left c.open.new.source) in
    opened-leads task c.in-Ok-Sat.field-0 Sat c.args.reader.now.given c.open.new.reader.given old new c.in-Ok-Sat.field-0-is (c.in-Ok-Sat.ensures.goes task same)
    c.check_list.new.reader.given (to_give c.check_list.new.reader.rest (g.S.Source.left c.check_list.new.source)) c.check_list.result
    (c.check_list.ensures.verdict task (record { problem = about.problem; version = about.version ∙ sym c.open.ensures.version }))

pub returns-in-Ok-Unsat-clause-verdict : goal.returns-in-Ok-Unsat-clause-verdict
returns-in-Ok-Unsat-clause-verdict g c task about same =
    let old = to_give c.args.reader.now.rest (g.S.Source.left c.args.source.now) in
    let new = to_give c.open.new.reader.rest (g.S.Source.left c.open.new.source) in
    opened-leads task c.in-Ok-Unsat.field-0 Unsat c.args.reader.now.given c.open.new.reader.given old new c.in-Ok-Unsat.field-0-is (c.in-Ok-Unsat.ensures.goes task same)
    c.check_list-in-Ok-Unsat.new.reader.given (to_give c.check_list-in-Ok-Unsat.new.reader.rest (g.S.Source.left c.check_list-in-Ok-Unsat.new.source)) c.check_list-in-Ok-Unsat.result
    (c.check_list-in-Ok-Unsat.ensures.verdict task (record { problem = about.problem; version = about.version ∙ sym c.open.ensures.version }))

pub returns-in-Ok-Unknown-clause-took : goal.returns-in-Ok-Unknown-clause-took
returns-in-Ok-Unknown-clause-took g c =
    took-on g.S.Source.read_gives g.S.Source.left c.args.reader.now c.open.new.reader c.close.new.reader c.args.source.now c.open.new.source c.close.new.source c.close.result c.in-Ok-Unknown.ensures.took c.close.ensures.took

pub returns-in-Ok-Sat-clause-took : goal.returns-in-Ok-Sat-clause-took
returns-in-Ok-Sat-clause-took g c =
    took-on g.S.Source.read_gives g.S.Source.left c.args.reader.now c.open.new.reader c.check_list.new.reader c.args.source.now c.open.new.source c.check_list.new.source c.check_list.result c.in-Ok-Sat.ensures.took c.check_list.ensures.took

pub returns-in-Ok-Unsat-clause-took : goal.returns-in-Ok-Unsat-clause-took
returns-in-Ok-Unsat-clause-took g c =
    took-on g.S.Source.read_gives g.S.Source.left c.args.reader.now c.open.new.reader c.check_list-in-Ok-Unsat.new.reader c.args.source.now c.open.new.source c.check_list-in-Ok-Unsat.new.source c.check_list-in-Ok-Unsat.result c.in-Ok-Unsat.ensures.took c.check_list-in-Ok-Unsat.ensures.took

pub returns-in-Err-clause-took : goal.returns-in-Err-clause-took
returns-in-Err-clause-took g c = c.in-Err.ensures.took
