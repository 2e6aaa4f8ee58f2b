use Rattle.std.proofs.Common.{refl}
use Rattle.qv_cert_nodes.proofs.FirstFaults.{skip, fits}
use Rattle.qv_cert_nodes.proofs.faults.eigen_node_fault.Goals as goal

pub returns-then-not-has_eigen : goal.returns-then-not-has_eigen
returns-then-not-has_eigen c trees p h = skip _ _ _ _ (c.if-not-is_next_node.ensures trees) (fits _ _ _ (c.if-not-has_eigen.ensures trees p h))

pub returns : goal.returns
returns c trees p h = skip _ _ _ _ (c.if-not-is_next_node.ensures trees) (skip _ _ _ _ (c.if-not-has_eigen.ensures trees p h) refl)
