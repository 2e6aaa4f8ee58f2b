use Rattle.std.proofs.Common.{refl}
use Rattle.qv_cert_nodes.proofs.FirstFaults.{skip, fits}
use Rattle.qv_cert_nodes.proofs.faults.variable_fault.Goals as goal

pub returns-then-not-is_universal : goal.returns-then-not-is_universal
returns-then-not-is_universal c trees = skip _ _ _ _ (c.if-not-is_next_node.ensures trees) (fits _ _ _ (c.if-not-is_universal.ensures trees))

pub returns : goal.returns
returns c trees = skip _ _ _ _ (c.if-not-is_next_node.ensures trees) (skip _ _ _ _ (c.if-not-is_universal.ensures trees) refl)
