use Rattle.std.proofs.Common.{◌≡◌, ◌<◌, ℕ, List, All, ap, sym, ◌∙◌, subst}
use Rattle.qv_words.specs.Tree.{Apply}
use Rattle.qv_store.specs.Nodes.{tree_at, trees_at, node_tree, children}
use Rattle.qv_store.proofs.Replacement.{if-ok}
use Rattle.qv_prenex_splits.proofs.Changing.{found-at}
use Rattle.qv_prenex_splits.proofs.rebuilding.find.Goals as goal

pub returns-in-App : goal.returns-in-App
returns-in-App c =
    let trees = c.args.store.now in
    let is : Apply c.in-App.op (trees_at trees c.as_slice.result.now) ≡ tree_at trees c.args.id =
    ap (λ ks. Apply c.in-App.op (trees_at trees ks)) c.as_slice.ensures ∙ sym (ap (node_tree trees) c.in-App.is) ∙ c.node.ensures.tree in
    let below : All (λ n. n < c.args.id) c.as_slice.result.now =
    subst (λ (ks : List ℕ). All (λ n. n < c.args.id) ks) (ap children c.in-App.is ∙ sym c.as_slice.ensures) c.node.ensures.children in
    record { found = if-ok c.find_application.result (λ found h. found-at trees c.args.made.now c.args.id c.in-App.op c.as_slice.result.now below is found h) c.find_application.ensures.found }
