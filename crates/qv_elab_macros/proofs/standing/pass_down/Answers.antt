use Rattle.std.proofs.Common.{◌≡◌, ◌<◌, ◌^◌, length, sym, ap, subst, ◌∙◌, arith}
use Rattle.std.specs.Prelude.{All}
use Rattle.std.proofs.lemmas.List.Elements.{All-from_recursion}
use Rattle.qv_words.specs.Tree.{Variable}
use Rattle.qv_store.specs.Nodes.{tree_at, children, node_tree}
use Rattle.qv_store.specs.Walks.{named, IsEarlier}
use Rattle.qv_store.proofs.Passes.{walk-kids}
use Rattle.qv_elab_macros.proofs.Peaks.{passed-variable, passed-children}
use Rattle.qv_elab_macros.proofs.standing.pass_down.Goals as goal

pub raise_all-requires : goal.raise_all-requires
raise_all-requires c =
    subst (All (IsEarlier c.args.walk.now (length c.args.below.now))) (sym c.children.ensures)
    (All-from_recursion (IsEarlier c.args.walk.now (length c.args.below.now)) (children c.node.result.now)
    (walk-kids c.args.store.now c.args.walk.now c.node.ensures.shared c.requires.walk (length c.args.below.now) c.args.id c.node.result.now c.requires.next c.node.ensures.tree c.node.ensures.children))

pub returns-in-Var : goal.returns-in-Var
returns-in-Var c =
    let fits : c.args.depth < 2 ^ 64 = omega (arith, c.ranges.depth) in
    let is : Variable c.in-Var.level c.in-Var.sort ≡ tree_at c.args.store.now c.args.id = sym (ap (node_tree c.args.store.now) c.in-Var.is) ∙ c.node.ensures.tree in
    record { passed = passed-variable (named c.args.store.now c.args.walk.now) c.args.below.now c.args.depths.now c.note.new.depths c.in-Var.level c.args.depth c.in-Var.sort (tree_at c.args.store.now c.args.id) fits is c.note.ensures }

pub returns-in_default : goal.returns-in_default
returns-in_default c = record {
  passed = passed-children c.args.store.now c.args.walk.now c.children.result.now c.args.below.now c.raise_all.new.below c.args.depths.now c.node.result.now (tree_at c.args.store.now c.args.id) c.args.depth c.above.result
      c.in_default.not-Var c.node.ensures.tree c.children.ensures c.above.ensures c.raise_all.ensures.len (c.raise_all.ensures.raised c.args.store.now);
}
