use Rattle.qv_cert.proofs.Printed.{printed-lines-are-read}
use Rattle.qv_cert.proofs.laws.printed_lines_are_read.Goals as goal

pub returns : goal.returns
returns c = printed-lines-are-read
