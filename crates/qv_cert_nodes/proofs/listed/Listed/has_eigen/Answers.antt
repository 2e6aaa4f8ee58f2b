use Rattle.qv_cert_nodes.proofs.Kept.{eigen-some, eigen-none}
use Rattle.qv_cert_nodes.proofs.listed.Listed.has_eigen.Goals as goal

pub returns-in_Some-branch : goal.returns-in_Some-branch
returns-in_Some-branch c trees p h = eigen-some trees p c.args.self.now c.args.line c.in_Some-branch.branch.now h c.in_Some-branch.ensures

pub returns-in_None-branch : goal.returns-in_None-branch
returns-in_None-branch c trees p h = eigen-none trees p c.args.self.now c.args.line c.in_None-branch.ensures
