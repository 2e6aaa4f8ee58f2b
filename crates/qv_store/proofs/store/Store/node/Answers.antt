use Rattle.std.proofs.Common.{sym, arith}
use Rattle.qv_store.proofs.Growing.{IsNodeAt}
use Rattle.qv_store.proofs.Keeping.{seen-length, read-node}
use Rattle.qv_store.proofs.store.Store.node.Goals as goal

pub index-requires : goal.index-requires
index-requires c =
    omega (arith, c.requires, c.place.ensures, seen-length c.self.inside.nodes.keys c.args.self.now c.self.view_is)

here : (c : goal.After-index) → IsNodeAt c.args.self.now c.args.id c.index.result.now
here c =
    read-node c.self.inside.nodes.keys c.self.inside.facts.items c.args.self.now c.args.id c.place.result c.index.result.now c.self.invariant c.self.view_is c.place.ensures c.index.ensures

pub returns-clause-tree : goal.returns-clause-tree
returns-clause-tree c = sym (here c).tree

pub returns-clause-children : goal.returns-clause-children
returns-clause-children c = (here c).children
