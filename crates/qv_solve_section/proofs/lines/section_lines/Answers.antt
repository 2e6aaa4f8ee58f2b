use Rattle.qv_cert.specs.declared.line.Line.TheVariants as line
use Rattle.qv_solve_write.proofs.Written.{form-more}
use Rattle.qv_solve_section.proofs.lines.section_lines.Goals as goal

pub returns-clause-form : goal.returns-clause-form
returns-clause-form c = form-more c.push_both.new.lines.items c.push-2.new.self.items line.End c.in_ok-push-2.ensures.items tt c.in_ok-push_both.ensures.form
