use Rattle.std.proofs.Common.{◌≡◌, ◌<◌, ℕ, List, length, ap, sym, ◌∙◌, subst, arith}
use Rattle.std.specs.Prelude.{All}
use Rattle.std.proofs.lemmas.List.Elements.{recursion_from_All, All-from_recursion}
use Rattle.qv_words.specs.Tree.{Apply}
use Rattle.qv_words.specs.Sorted.{IsSorted}
use Rattle.qv_words.proofs.Elements.{all-weaker}
use Rattle.qv_store.specs.Nodes.{tree_at, trees_at, node_tree, children}
use Rattle.qv_store.specs.Walks.{IsEarlier}
use Rattle.qv_store.proofs.Passes.{walk-kids}
use Rattle.qv_choose_paths.specs.Looks.{look_of}
use Rattle.qv_choose_paths.proofs.SceneLaws.{walk-below, few-kids}
use Rattle.qv_choose_paths.proofs.looking.look_at.Goals as goal

pub look_through-requires-clause-kids : goal.look_through-requires-clause-kids
look_through-requires-clause-kids c =
    let kids = walk-kids c.args.store.now c.args.walk.now c.node.ensures.shared c.requires.walk (length c.args.looks.now) c.args.id c.node.result.now c.requires.at c.node.ensures.tree c.node.ensures.children in
    let own : c.as_slice.result.now ≡ children c.node.result.now = c.as_slice.ensures ∙ sym (ap children c.in-App.is) in
    subst (λ (ks : List ℕ). All (IsEarlier c.args.walk.now (length c.args.looks.now)) ks) (sym own) (All-from_recursion (IsEarlier c.args.walk.now (length c.args.looks.now)) (children c.node.result.now) kids)

pub look_through-requires-clause-ids : goal.look_through-requires-clause-ids
look_through-requires-clause-ids c =
    let own : c.as_slice.result.now ≡ children c.node.result.now = c.as_slice.ensures ∙ sym (ap children c.in-App.is) in
    let low = walk-below c.args.store.now c.args.walk.now (length c.args.looks.now) c.args.id c.requires.walk c.requires.at in
    let below = all-weaker (λ n. n < c.args.id) (λ n. n < length c.args.store.now) (children c.node.result.now) (λ n h. omega (arith, h, low)) (recursion_from_All (λ n. n < c.args.id) (children c.node.result.now) c.node.ensures.children) in
    subst (λ (ks : List ℕ). All (λ n. n < length c.args.store.now) ks) (sym own) (All-from_recursion (λ n. n < length c.args.store.now) (children c.node.result.now) below)

pub look_through-requires-clause-few : goal.look_through-requires-clause-few
look_through-requires-clause-few c =
    let is : Apply c.in-App.op (trees_at c.args.store.now c.as_slice.result.now) ≡ tree_at c.args.store.now c.args.id =
    ap (λ ks. Apply c.in-App.op (trees_at c.args.store.now ks)) c.as_slice.ensures ∙ sym (ap (node_tree c.args.store.now) c.in-App.is) ∙ c.node.ensures.tree in
    let low = walk-below c.args.store.now c.args.walk.now (length c.args.looks.now) c.args.id c.requires.walk c.requires.at in
    few-kids c.args.store.now c.in-App.op c.as_slice.result.now (subst IsSorted (sym is) (c.node.ensures.shared.sorted c.args.id low))

pub returns-in-Var : goal.returns-in-Var
returns-in-Var c =
    c.look_at_variable.ensures c.in-Var.sort ∙ ap (look_of c.args.place) (sym (ap (node_tree c.args.store.now) c.in-Var.is) ∙ c.node.ensures.tree)
