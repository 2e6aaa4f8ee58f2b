use Rattle.qv_cert_nodes.proofs.Kept.{depth-some, depth-none}
use Rattle.qv_cert_nodes.proofs.listed.Listed.depth.Goals as goal

pub returns-in_Some-branch-clause-depth : goal.returns-in_Some-branch-clause-depth
returns-in_Some-branch-clause-depth c trees p h = depth-some trees p c.args.self.now c.args.line c.in_Some-branch.branch.now h c.in_Some-branch.ensures

pub returns-in_None-branch-clause-depth : goal.returns-in_None-branch-clause-depth
returns-in_None-branch-clause-depth c trees p h = depth-none trees p c.args.self.now c.args.line c.in_None-branch.ensures
