use Rattle.qv_circuits_laws.proofs.PassNodes.{passes-add_no_nodes}
use Rattle.qv_circuits_laws.proofs.passes.passes_add_no_nodes.Goals as goal

pub returns : goal.returns
returns _ = passes-add_no_nodes
