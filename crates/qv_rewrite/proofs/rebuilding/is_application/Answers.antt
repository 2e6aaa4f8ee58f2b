use Rattle.std.proofs.Common.{◌≡◌, sym, ap, ◌∙◌}
use Rattle.qv_words.specs.Tree.{Apply}
use Rattle.qv_store.specs.Nodes.{tree_at, trees_at, node_tree}
use Rattle.qv_store.proofs.SameOps.{ops-same}
use Rattle.qv_rewrite.proofs.rebuilding.is_application.Goals as goal

pub returns-in-App : goal.returns-in-App
returns-in-App c h =
    let trees = c.args.store.now in
    let is : Apply c.in-App.own (trees_at trees c.as_slice.result.now) ≡ tree_at trees c.args.id =
    ap (λ ks. Apply c.in-App.own (trees_at trees ks)) c.as_slice.ensures ∙ sym (ap (node_tree trees) c.in-App.is) ∙ c.node.ensures.tree in
    let same : c.in-App.own ≡ c.args.op = ops-same c.in-App.own c.args.op (sym c.eq.ensures ∙ c.if-eq.true) in
    sym is ∙ ap (λ o. Apply o (trees_at trees c.as_slice.result.now)) same ∙ ap (λ ks. Apply c.args.op (trees_at trees ks)) (c.are_these.ensures h)
