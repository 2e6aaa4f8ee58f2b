use Rattle.std.proofs.Common.{◌≡◌, ℕ, List, ap, sym, ◌∙◌}
use Rattle.qv_words.specs.Tree.{Apply}
use Rattle.qv_store.specs.Nodes.{tree_at, trees_at, node_tree, children}
use Rattle.qv_choose_clauses.proofs.SideLaws.{sides-from}
use Rattle.qv_choose_clauses.proofs.sides.sides_of.Goals as goal

pub returns-in-App : goal.returns-in-App
returns-in-App c =
    let own : children c.node.result.now ≡ c.as_slice.result.now = ap children c.in-App.is ∙ sym c.as_slice.ensures in
    let is : Apply c.in-App.op (trees_at c.args.store.now c.as_slice.result.now) ≡ tree_at c.args.store.now c.args.id =
    ap (λ ks. Apply c.in-App.op (trees_at c.args.store.now ks)) c.as_slice.ensures ∙ sym (ap (node_tree c.args.store.now) c.in-App.is) ∙ c.node.ensures.tree in
    sides-from c.args.both c.args.store.now c.args.id c.in-App.op c.node.result.now c.as_slice.result.now c.two_of.result c.node.ensures.tree c.node.ensures.children own is c.two_of.ensures
