use Rattle.std.proofs.Common.{◌≡◌, length, sym, ap, ◌∙◌, subst}
use Rattle.std.specs.Prelude.{All}
use Rattle.std.proofs.lemmas.List.Elements.{All-from_recursion}
use Rattle.qv_words.specs.Tree.{Apply}
use Rattle.qv_words.specs.Sorted.{IsSorted}
use Rattle.qv_store.specs.Nodes.{tree_at, trees_at, node_tree, children}
use Rattle.qv_store.specs.Stores.{StandsAt}
use Rattle.qv_store.specs.Walks.{IsEarlier}
use Rattle.qv_store.proofs.Passes.{walk-kids}
use Rattle.qv_store.proofs.Replacement.{if-ok}
use Rattle.qv_rewrite_simps.proofs.Applying.{few-kids, ready}
use Rattle.qv_rewrite_simps.proofs.simping.simp_next.Goals as goal

pub args_of-args-requires-clause-few : goal.args_of-args-requires-clause-few
args_of-args-requires-clause-few c =
    let trees = c.args.store.now in
    let kids = c.as_slice.result.now in
    let is : Apply c.in-App.op (trees_at trees kids) ≡ tree_at trees c.args.id =
    ap (λ ks. Apply c.in-App.op (trees_at trees ks)) c.as_slice.ensures ∙ sym (ap (node_tree trees) c.in-App.is) ∙ c.node.ensures.tree in
    let sorted : IsSorted (Apply c.in-App.op (trees_at trees kids)) = subst IsSorted (sym is) (c.node.ensures.shared.sorted c.args.id c.requires.id) in
    few-kids trees c.in-App.op kids sorted.1

pub args_of-args-requires-clause-kids : goal.args_of-args-requires-clause-kids
args_of-args-requires-clause-kids c =
    let trees = c.args.store.now in
    let ids = c.args.walk.now in
    let many = length c.args.made.now in
    subst (All (IsEarlier ids many)) (ap children c.in-App.is ∙ sym c.as_slice.ensures)
    (All-from_recursion (IsEarlier ids many) (children c.node.result.now)
    (walk-kids trees ids c.node.ensures.shared c.requires.next.walk many c.args.id c.node.result.now c.requires.next.at c.node.ensures.tree c.node.ensures.children))

pub node-requires-in-App-clause-args : goal.node-requires-in-App-clause-args
node-requires-in-App-clause-args c =
    let trees = c.args.store.now in
    let kids = c.as_slice.result.now in
    let is : Apply c.in-App.op (trees_at trees kids) ≡ tree_at trees c.args.id =
    ap (λ ks. Apply c.in-App.op (trees_at trees ks)) c.as_slice.ensures ∙ sym (ap (node_tree trees) c.in-App.is) ∙ c.node.ensures.tree in
    (ready trees c.args.walk.now c.args.made.now kids (tree_at trees c.args.id) c.in-App.op c.args_of-args.result (sym is) (c.node.ensures.shared.sorted c.args.id c.requires.id) c.requires.free c.requires.next.found c.args_of-args.ensures).below

pub node-requires-in-App-clause-sorted : goal.node-requires-in-App-clause-sorted
node-requires-in-App-clause-sorted c =
    let trees = c.args.store.now in
    let kids = c.as_slice.result.now in
    let is : Apply c.in-App.op (trees_at trees kids) ≡ tree_at trees c.args.id =
    ap (λ ks. Apply c.in-App.op (trees_at trees ks)) c.as_slice.ensures ∙ sym (ap (node_tree trees) c.in-App.is) ∙ c.node.ensures.tree in
    (ready trees c.args.walk.now c.args.made.now kids (tree_at trees c.args.id) c.in-App.op c.args_of-args.result (sym is) (c.node.ensures.shared.sorted c.args.id c.requires.id) c.requires.free c.requires.next.found c.args_of-args.ensures).sorted

pub node-requires-in-App-clause-free : goal.node-requires-in-App-clause-free
node-requires-in-App-clause-free c =
    let trees = c.args.store.now in
    let kids = c.as_slice.result.now in
    let is : Apply c.in-App.op (trees_at trees kids) ≡ tree_at trees c.args.id =
    ap (λ ks. Apply c.in-App.op (trees_at trees ks)) c.as_slice.ensures ∙ sym (ap (node_tree trees) c.in-App.is) ∙ c.node.ensures.tree in
    (ready trees c.args.walk.now c.args.made.now kids (tree_at trees c.args.id) c.in-App.op c.args_of-args.result (sym is) (c.node.ensures.shared.sorted c.args.id c.requires.id) c.requires.free c.requires.next.found c.args_of-args.ensures).free

pub returns-in-App-clause-id : goal.returns-in-App-clause-id
returns-in-App-clause-id c =
    let trees = c.args.store.now in
    let kids = c.as_slice.result.now in
    let is : Apply c.in-App.op (trees_at trees kids) ≡ tree_at trees c.args.id =
    ap (λ ks. Apply c.in-App.op (trees_at trees ks)) c.as_slice.ensures ∙ sym (ap (node_tree trees) c.in-App.is) ∙ c.node.ensures.tree in
    let whole = (ready trees c.args.walk.now c.args.made.now kids (tree_at trees c.args.id) c.in-App.op c.args_of-args.result (sym is) (c.node.ensures.shared.sorted c.args.id c.requires.id) c.requires.free c.requires.next.found c.args_of-args.ensures).whole in
    if-ok c.node-in-App.result (λ made at. subst (StandsAt c.node-in-App.new.store made) whole at) c.node-in-App.ensures.id
