use Rattle.qv_cnf.specs.LratLine.{line_of}
use Rattle.qv_lrat_text.specs.Spelling.{spelling}
use Rattle.qv_cert_text.proofs.PrintingLemmas.{keeps_printed}
use Rattle.qv_cert_text.proofs.printing.push_line.Goals as goal

pub returns-in-Step-clause-kept : goal.returns-in-Step-clause-kept
returns-in-Step-clause-kept c =
    keeps_printed c.print_line.result c.args.out.now.items (spelling (line_of c.in-Step.step)) c.print_line.new.out.items c.print_line.ensures.printed c.print_line.ensures.err
