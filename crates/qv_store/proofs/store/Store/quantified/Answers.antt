use Rattle.std.proofs.Common.{ap}
use Rattle.qv_store.specs.declared.facts.Facts.{Facts}
use Rattle.qv_store.specs.Nodes.{tree_at}
use Rattle.qv_store.proofs.Keeping.{read-facts}
use Rattle.qv_store.proofs.Unquantified.{free-on_false}
use Rattle.qv_store.proofs.store.Store.quantified.Goals as goal

pub returns-clause-free : goal.returns-clause-free
returns-clause-free c =
    let read = read-facts c.self.inside.nodes.keys c.self.inside.facts.items c.args.self.now c.args.id c.place.result c.index.result.now c.self.invariant c.self.view_is c.requires c.place.ensures c.index.ensures in
    free-on_false c.index.result.now.quantified (tree_at c.args.self.now c.args.id) (ap (λ (f : Facts). f.quantified) read)
