use Rattle.std.proofs.Common.{◌≡◌, ap, sym, ◌∙◌}
use Rattle.qv_words.specs.Tree.{Apply}
use Rattle.qv_store.specs.Nodes.{tree_at, trees_at, node_tree, children}
use Rattle.qv_choose_paths.proofs.SceneLaws.{kids-of}
use Rattle.qv_choose_paths.proofs.descending.step_down.Goals as goal

pub step_through-requires-clause-kids : goal.step_through-requires-clause-kids
step_through-requires-clause-kids c =
    let own : children c.node.result.now ≡ c.as_slice.result.now = ap children c.in-App.is ∙ sym c.as_slice.ensures in
    let is : Apply c.in-App.op (trees_at c.args.store.now c.as_slice.result.now) ≡ tree_at c.args.store.now c.args.id =
    ap (λ ks. Apply c.in-App.op (trees_at c.args.store.now ks)) c.as_slice.ensures ∙ sym (ap (node_tree c.args.store.now) c.in-App.is) ∙ c.node.ensures.tree in
    kids-of c.args.store.now c.args.sight.now c.args.id c.in-App.op c.node.result.now c.as_slice.result.now c.requires.scene c.requires.id c.node.ensures.tree c.node.ensures.children own is
