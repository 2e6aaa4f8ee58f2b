use Rattle.qv_cert.proofs.Pinned.{term-lines-have-no-fault}
use Rattle.qv_cert.proofs.laws.term_lines_have_no_fault.Goals as goal

pub returns : goal.returns
returns c = term-lines-have-no-fault
