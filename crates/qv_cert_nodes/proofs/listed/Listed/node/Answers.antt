use Rattle.std.proofs.Common.{◌<◌, ◌-◌, length, arith}
use Rattle.qv_cert_nodes.proofs.Kept.{node-tree, found-there}
use Rattle.qv_cert_nodes.proofs.listed.Listed.node.Goals as goal

pub returns-clause-tree : goal.returns-clause-tree
returns-clause-tree c trees =
    let ids = c.args.self.now.nodes.items in
    let within : c.args.node - 1 < length ids = omega (arith, c.requires.some, c.requires.there) in
    node-tree trees c.args.self.now (c.args.node - 1) c.args.node c.index.result.now (omega (arith, c.requires.some))
    (found-there ids (c.args.node - 1) c.index.result.now within c.index.ensures)
