use Rattle.std.proofs.Common.{ap, sym, ◌∙◌, subst, ◌≡◌, take, length, arith}
use Rattle.std.proofs.lemmas.List.{take_all}
use Rattle.qv_words.specs.Tree.{Apply}
use Rattle.qv_terms.proofs.Rows.{tree-App}
use Rattle.qv_terms.specs.View.{trees}
use Rattle.qv_store.specs.Nodes.{node_tree, trees_at}
use Rattle.qv_trees.proofs.Grown.{grown-push}
use Rattle.qv_trees.proofs.growing.+grow.Goals as goal

pub kids-preserved : goal.kids-preserved
kids-preserved t c =
    ap trees c.in_ok-push-in-App.ensures.items
    ∙ grown-push c.args.store.now c.kids.grown.items c.as_slice-kid-items.result.now c.kids.kid-index c.kid-item.result c.in_ok-term-in-App.term c.kids.invariant c.kids-test.true c.kid-item.is c.in_ok-term-in-App.ensures

pub returns-after-kids : goal.returns-after-kids
returns-after-kids t c =
    let store = c.args.store.now in
    let all : take c.kids.kid-index c.as_slice-kid-items.result.now ≡ c.as_slice-kid-items.result.now = take_all c.kids.kid-index c.as_slice-kid-items.result.now (omega (arith, c.kids-test.false)) in
    tree-App c.in-App.op c.kids.grown ∙ ap (Apply c.in-App.op) (c.kids.invariant ∙ ap (trees_at store) (all ∙ c.as_slice-kid-items.ensures))
    ∙ ap (node_tree store) (sym c.in-App.is) ∙ c.node.ensures.tree
