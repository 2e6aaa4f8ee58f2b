use Rattle.std.proofs.Common.{ap, subst, ◌∙◌, arith, length, ◌<◌}
use Rattle.qv_store.specs.Nodes.{tree_at, HasChildrenBelow}
use Rattle.qv_store.proofs.Copying.{copied-next}
use Rattle.qv_store.proofs.store.Store.copy.Goals as goal

pub put-requires-clause-sorted : goal.put-requires-clause-sorted
put-requires-clause-sorted c =
    let within : c.terms.number < length c.args.self.now = omega (arith, c.terms-test.true, c.len-number-end.ensures.len) in
    (copied-next c.args.self.now c.node-node.ensures.shared c.terms.number within c.terms.copied c.node-node.result.now c.in_ok-copy.field-0 c.terms.invariant
    (c.node-node.ensures.tree ∙ ap (tree_at c.args.self.now) c.id_at.ensures) (subst (λ n. HasChildrenBelow n c.node-node.result.now) c.id_at.ensures c.node-node.ensures.children) c.in_ok-copy.ensures).sorted

pub terms-preserved : goal.terms-preserved
terms-preserved c =
    let within : c.terms.number < length c.args.self.now = omega (arith, c.terms-test.true, c.len-number-end.ensures.len) in
    c.in_ok-put.ensures.ok
    ∙ (copied-next c.args.self.now c.node-node.ensures.shared c.terms.number within c.terms.copied c.node-node.result.now c.in_ok-copy.field-0 c.terms.invariant
    (c.node-node.ensures.tree ∙ ap (tree_at c.args.self.now) c.id_at.ensures) (subst (λ n. HasChildrenBelow n c.node-node.result.now) c.id_at.ensures c.node-node.ensures.children) c.in_ok-copy.ensures).next
