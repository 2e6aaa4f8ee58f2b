use Rattle.qv_cert.proofs.Pinned.{faults-are-in-order}
use Rattle.qv_cert.proofs.laws.faults_are_in_order.Goals as goal

pub returns : goal.returns
returns c = faults-are-in-order
