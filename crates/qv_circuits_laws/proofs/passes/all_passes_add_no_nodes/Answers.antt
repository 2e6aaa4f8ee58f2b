use Rattle.qv_circuits_laws.proofs.PassNodes.{all-passes_add_no_nodes}
use Rattle.qv_circuits_laws.proofs.passes.all_passes_add_no_nodes.Goals as goal

pub returns : goal.returns
returns _ = all-passes_add_no_nodes
