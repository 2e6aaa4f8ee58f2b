use Rattle.std.proofs.Common.{◌≡◌, ℕ, List, ap, sym, ◌∙◌}
use Rattle.qv_words.specs.Tree.{Apply}
use Rattle.qv_store.specs.Nodes.{trees_at, node_tree, children}
use Rattle.qv_rewrite_xors.proofs.Applying.{next-application}
use Rattle.qv_rewrite_xors.proofs.xoring.next_chain.Goals as goal

pub application_chain-requires-clause-application : goal.application_chain-requires-clause-application
application_chain-requires-clause-application c =
    let trees = c.args.store.now in
    let same : c.as_slice-in-App.result.now ≡ c.in-App.kids.items = c.as_slice-in-App.ensures ∙ c.in_ok-kids-in-App.ensures.ok ∙ c.as_slice.ensures in
    next-application trees c.args.walk.now c.args.found.now c.args.id c.node.result.now c.in-App.op c.as_slice-in-App.result.now c.requires.next c.node.ensures.shared c.requires.id c.node.ensures.tree c.node.ensures.children
    (ap children c.in-App.is ∙ sym same)
    (sym c.node.ensures.tree ∙ ap (node_tree trees) c.in-App.is ∙ ap (λ (ks : List ℕ). Apply c.in-App.op (trees_at trees ks)) (sym same))
