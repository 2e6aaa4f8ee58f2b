use Rattle.qv_cert.proofs.Pinned.{eigen-lines-have-no-fault}
use Rattle.qv_cert.proofs.laws.eigen_lines_have_no_fault.Goals as goal

pub returns : goal.returns
returns c = eigen-lines-have-no-fault
