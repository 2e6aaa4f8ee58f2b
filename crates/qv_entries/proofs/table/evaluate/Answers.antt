use Rattle.std.proofs.Common.{◌≡◌, ◌<◌, [], length, ap, sym, ◌∙◌, subst, arith}
use Rattle.std.specs.Prelude.{All}
use Rattle.std.proofs.lemmas.List.Elements.{All-from_recursion}
use Rattle.qv_words.specs.Tree.{Apply}
use Rattle.qv_words.specs.Sorted.{IsSorted}
use Rattle.qv_store.specs.Nodes.{tree_at, trees_at, node_tree, children}
use Rattle.qv_store.specs.Walks.{IsEarlier}
use Rattle.qv_store.specs.Evaluating.{IsWordOf}
use Rattle.qv_store.proofs.Passes.{walk-kids}
use Rattle.qv_store.proofs.Evaluation.{constant-within, variable-within, variable-word, args-rank, applied-word}
use Rattle.qv_entries.proofs.table.evaluate.Goals as goal

pub bounds-point-level : goal.bounds-point-level
bounds-point-level c =
    variable-within [] c.args.point.now (tree_at c.args.store.now c.args.id) c.requires.next.value c.in-Var.level c.in-Var.sort
    (ap (node_tree c.args.store.now) (sym c.in-Var.is) ∙ c.node.ensures.tree)

pub offset_bounds-point-level : goal.offset_bounds-point-level
offset_bounds-point-level c =
    let low : c.in-Var.level < length c.args.point.now =
    variable-within [] c.args.point.now (tree_at c.args.store.now c.args.id) c.requires.next.value c.in-Var.level c.in-Var.sort
    (ap (node_tree c.args.store.now) (sym c.in-Var.is) ∙ c.node.ensures.tree) in
    omega arith

pub returns-in-Var : goal.returns-in-Var
returns-in-Var c =
    variable-word [] c.args.point.now (tree_at c.args.store.now c.args.id) c.requires.next.value c.in-Var.level c.in-Var.sort c.index-point-level.result
    (ap (node_tree c.args.store.now) (sym c.in-Var.is) ∙ c.node.ensures.tree) c.index-point-level.is

pub apply_to-requires-clause-kids : goal.apply_to-requires-clause-kids
apply_to-requires-clause-kids c =
    let kids = walk-kids c.args.store.now c.args.walk.now c.node.ensures.shared c.requires.next.walk (length c.args.words.now) c.args.id c.node.result.now c.requires.next.at c.node.ensures.tree c.node.ensures.children in
    let own = c.as_slice.ensures ∙ sym (ap children c.in-App.is) in
    subst (λ ks. All (IsEarlier c.args.walk.now (length c.args.words.now)) ks) (sym own) (All-from_recursion (IsEarlier c.args.walk.now (length c.args.words.now)) (children c.node.result.now) kids)

pub apply_to-requires-clause-rank : goal.apply_to-requires-clause-rank
apply_to-requires-clause-rank c = λ args found.
    let tree : Apply c.in-App.op (trees_at c.args.store.now c.as_slice.result.now) ≡ tree_at c.args.store.now c.args.id =
    ap (λ ks. Apply c.in-App.op (trees_at c.args.store.now ks)) c.as_slice.ensures ∙ ap (node_tree c.args.store.now) (sym c.in-App.is) ∙ c.node.ensures.tree in
    let sorted = subst IsSorted (sym tree) (c.node.ensures.shared.sorted c.args.id c.requires.id) in
    args-rank [] c.args.point.now c.args.store.now c.args.walk.now c.args.words.now c.requires.next.found c.in-App.op c.as_slice.result.now args sorted found

pub returns-in-App : goal.returns-in-App
returns-in-App c =
    let tree : Apply c.in-App.op (trees_at c.args.store.now c.as_slice.result.now) ≡ tree_at c.args.store.now c.args.id =
    ap (λ ks. Apply c.in-App.op (trees_at c.args.store.now ks)) c.as_slice.ensures ∙ ap (node_tree c.args.store.now) (sym c.in-App.is) ∙ c.node.ensures.tree in
    subst (λ t. IsWordOf [] c.args.point.now t c.apply_to.result) tree
    (applied-word [] c.args.point.now c.args.store.now c.args.walk.now c.args.words.now c.requires.next.found c.in-App.op c.as_slice.result.now c.apply_to.result c.apply_to.ensures)

pub unreachable-requires : goal.unreachable-requires
unreachable-requires c =
    let low : c.in-Const.index < 0 =
    constant-within [] c.args.point.now (tree_at c.args.store.now c.args.id) c.requires.next.value c.in-Const.index c.in-Const.sort
    (ap (node_tree c.args.store.now) (sym c.in-Const.is) ∙ c.node.ensures.tree) in
    absurd (omega (arith, low))
