use Rattle.qv_circuits_laws.proofs.PassNodes.{pass-adds_no_nodes}
use Rattle.qv_circuits_laws.proofs.passes.pass_adds_no_nodes.Goals as goal

pub returns : goal.returns
returns _ = pass-adds_no_nodes
