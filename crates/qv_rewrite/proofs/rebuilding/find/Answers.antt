use Rattle.std.proofs.Common.{◌≡◌, ◌<◌, ℕ, List, All, sym, ap, ◌∙◌, subst}
use Rattle.qv_words.specs.Tree.{Apply}
use Rattle.qv_words.specs.Sorted.{IsSorted}
use Rattle.qv_store.specs.Nodes.{tree_at, trees_at, node_tree, children}
use Rattle.qv_rewrite.proofs.Stepping.{few-kids, missing-kid}
use Rattle.qv_rewrite.proofs.rebuilding.find.Goals as goal

pub made_args-requires-clause-few : goal.made_args-requires-clause-few
made_args-requires-clause-few c =
    let is : Apply c.in-App.op (trees_at c.args.store.now c.as_slice.result.now) ≡ tree_at c.args.store.now c.args.id =
    ap (λ ks. Apply c.in-App.op (trees_at c.args.store.now ks)) c.as_slice.ensures ∙ sym (ap (node_tree c.args.store.now) c.in-App.is) ∙ c.node.ensures.tree in
    let sorted : IsSorted (Apply c.in-App.op (trees_at c.args.store.now c.as_slice.result.now)) = subst IsSorted (sym is) (c.node.ensures.shared.sorted c.args.id c.requires.id) in
    few-kids c.args.store.now c.in-App.op c.as_slice.result.now sorted.1

pub returns-in-Err-clause-found : goal.returns-in-Err-clause-found
returns-in-Err-clause-found c =
    let is : Apply c.in-App.op (trees_at c.args.store.now c.as_slice.result.now) ≡ tree_at c.args.store.now c.args.id =
    ap (λ ks. Apply c.in-App.op (trees_at c.args.store.now ks)) c.as_slice.ensures ∙ sym (ap (node_tree c.args.store.now) c.in-App.is) ∙ c.node.ensures.tree in
    let below : All (λ n. n < c.args.id) c.as_slice.result.now =
    subst (λ (ks : List ℕ). All (λ n. n < c.args.id) ks) (ap children c.in-App.is ∙ sym c.as_slice.ensures) c.node.ensures.children in
    missing-kid c.args.store.now c.args.made.now c.args.id c.in-App.op c.as_slice.result.now c.in-Err.kid below is c.requires.free c.in-Err.ensures.child c.in-Err.ensures.missing
