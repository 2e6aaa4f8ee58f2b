use Rattle.qv_cert.proofs.Pinned.{instance-lines-have-no-fault}
use Rattle.qv_cert.proofs.laws.instance_lines_have_no_fault.Goals as goal

pub returns : goal.returns
returns c = instance-lines-have-no-fault
