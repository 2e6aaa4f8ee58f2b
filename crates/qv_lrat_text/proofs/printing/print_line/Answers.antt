use Rattle.qv_cnf.specs.LratLine.{line_of}
use Rattle.qv_lrat_text.proofs.LineLemmas.{lrat_line-spelling}
use Rattle.qv_lrat_text.proofs.printing.print_line.Goals as goal

pub returns-in-Ok-clause-reads : goal.returns-in-Ok-clause-reads
returns-in-Ok-clause-reads c = lrat_line-spelling (line_of c.args.step.now) (c.requires, c.in-Ok.ensures.literals)
