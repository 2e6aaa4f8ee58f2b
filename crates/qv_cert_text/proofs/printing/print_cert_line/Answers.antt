use Rattle.qv_cert.specs.LineView.{cert_line_of}
use Rattle.qv_cert.proofs.Printed.{printed-lines-are-read}
use Rattle.qv_cert_text.proofs.printing.print_cert_line.Goals as goal

pub returns-in-Ok-clause-reads : goal.returns-in-Ok-clause-reads
returns-in-Ok-clause-reads c = (printed-lines-are-read (cert_line_of c.args.line.now) c.requires).0

pub returns-in-Ok-clause-reads_end : goal.returns-in-Ok-clause-reads_end
returns-in-Ok-clause-reads_end c = λ _. (printed-lines-are-read (cert_line_of c.args.line.now) c.requires).1
