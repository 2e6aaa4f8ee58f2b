use Rattle.std.proofs.Common.{◌<◌, [], length, ap, sym, ◌∙◌, arith}
use Rattle.qv_store.specs.Nodes.{tree_at, node_tree}
use Rattle.qv_store.proofs.Evaluation.{variable-within, variable-word}
use Rattle.qv_entries.proofs.shallow.leaf_word.Goals as goal

pub bounds-point-level : goal.bounds-point-level
bounds-point-level c =
    variable-within [] c.args.point.now (tree_at c.args.store.now c.args.id) c.requires.value c.in-Var.level c.in-Var.sort
    (ap (node_tree c.args.store.now) (sym c.in-Var.is) ∙ c.node.ensures.tree)

pub offset_bounds-point-level : goal.offset_bounds-point-level
offset_bounds-point-level c =
    let low : c.in-Var.level < length c.args.point.now =
    variable-within [] c.args.point.now (tree_at c.args.store.now c.args.id) c.requires.value c.in-Var.level c.in-Var.sort
    (ap (node_tree c.args.store.now) (sym c.in-Var.is) ∙ c.node.ensures.tree) in
    omega arith

pub returns-in-Var : goal.returns-in-Var
returns-in-Var c =
    variable-word [] c.args.point.now (tree_at c.args.store.now c.args.id) c.requires.value c.in-Var.level c.in-Var.sort c.index-point-level.result
    (ap (node_tree c.args.store.now) (sym c.in-Var.is) ∙ c.node.ensures.tree) c.index-point-level.is
