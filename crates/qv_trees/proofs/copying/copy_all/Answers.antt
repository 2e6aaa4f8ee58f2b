use Rattle.qv_trees.proofs.Placing.{loop-kids, loop-copied, loop-put}
use Rattle.qv_trees.proofs.copying.copy_all.Goals as goal

pub renumber-requires : goal.renumber-requires
renumber-requires c =
    loop-kids c.args.store.now c.terms.copied c.args.walk.now c.ids-id-items.result.now c.terms.id-index c.id-item.result c.ids-id-items.ensures c.terms.invariant c.terms-test.true c.id-item.is
    c.node.ensures.shared c.requires.walk c.node.result.now c.node.ensures.tree c.node.ensures.children

pub put-requires-clause-children : goal.put-requires-clause-children
put-requires-clause-children c =
    (loop-copied c.args.store.now c.terms.copied c.args.walk.now c.ids-id-items.result.now c.terms.id-index c.id-item.result c.ids-id-items.ensures c.terms.invariant c.terms-test.true c.id-item.is
    c.node.ensures.shared c.requires.walk c.node.result.now c.in_ok-node.node c.node.ensures.tree c.in_ok-node.ensures).children

pub put-requires-clause-sorted : goal.put-requires-clause-sorted
put-requires-clause-sorted c =
    (loop-copied c.args.store.now c.terms.copied c.args.walk.now c.ids-id-items.result.now c.terms.id-index c.id-item.result c.ids-id-items.ensures c.terms.invariant c.terms-test.true c.id-item.is
    c.node.ensures.shared c.requires.walk c.node.result.now c.in_ok-node.node c.node.ensures.tree c.in_ok-node.ensures).sorted

pub terms-preserved : goal.terms-preserved
terms-preserved c =
    loop-put c.args.store.now c.terms.copied c.args.walk.now c.ids-id-items.result.now c.terms.id-index c.id-item.result c.ids-id-items.ensures c.terms.invariant c.terms-test.true c.id-item.is
    c.node.ensures.shared c.requires.walk c.node.result.now c.in_ok-node.node c.put.new.self c.node.ensures.tree c.in_ok-node.ensures c.in_ok-put.ensures.ok
