use Rattle.qv_cert.specs.CertReader.{to_give}
use Rattle.qv_check_lines.proofs.TakenBy.{took-on}
use Rattle.qv_check.proofs.section.check_list.Goals as goal

pub returns-in-Ok-clause-verdict : goal.returns-in-Ok-clause-verdict
returns-in-Ok-clause-verdict g c task about =
    (c.in-Ok.ensures.goes task about).judged c.check_refutation.new.reader.given (to_give c.check_refutation.new.reader.rest (g.S.Source.left c.check_refutation.new.source)) c.check_refutation.result (c.check_refutation.ensures.verdict task)

pub returns-in-Ok-clause-took : goal.returns-in-Ok-clause-took
returns-in-Ok-clause-took g c =
    took-on g.S.Source.read_gives g.S.Source.left c.args.reader.now c.read_to_lrat.new.reader c.check_refutation.new.reader c.args.source.now c.read_to_lrat.new.source c.check_refutation.new.source c.check_refutation.result c.in-Ok.ensures.took c.check_refutation.ensures.took

pub returns-in-Err-clause-took : goal.returns-in-Err-clause-took
returns-in-Err-clause-took g c = c.in-Err.ensures.took
