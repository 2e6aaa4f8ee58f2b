use Rattle.std.proofs.Common.{ap, sym, ◌∙◌}
use Rattle.qv_store.specs.Nodes.{node_tree}
use Rattle.qv_rewrite_sums.specs.Held.{class_of, number_in}
use Rattle.qv_rewrite_sums.proofs.ordering.rank.Goals as goal

pub returns-in-Const : goal.returns-in-Const
returns-in-Const c =
    let tree = ap (node_tree c.args.store.now) (sym c.in-Const.is) ∙ c.node.ensures.tree in
    record { class = ap class_of tree; number = ap number_in tree }

pub returns-in-Var : goal.returns-in-Var
returns-in-Var c =
    let tree = ap (node_tree c.args.store.now) (sym c.in-Var.is) ∙ c.node.ensures.tree in
    record { class = ap class_of tree; number = ap number_in tree }

pub returns-in-Lit : goal.returns-in-Lit
returns-in-Lit c =
    let tree = ap (node_tree c.args.store.now) (sym c.in-Lit.is) ∙ c.node.ensures.tree in
    record { class = ap class_of tree; number = ap number_in tree }

pub returns-in-App : goal.returns-in-App
returns-in-App c =
    let tree = ap (node_tree c.args.store.now) (sym c.in-App.is) ∙ c.node.ensures.tree in
    record { class = ap class_of tree; number = ap number_in tree }

pub returns-in-All : goal.returns-in-All
returns-in-All c =
    let tree = ap (node_tree c.args.store.now) (sym c.in-All.is) ∙ c.node.ensures.tree in
    record { class = ap class_of tree; number = ap number_in tree }

pub returns-in-Ex : goal.returns-in-Ex
returns-in-Ex c =
    let tree = ap (node_tree c.args.store.now) (sym c.in-Ex.is) ∙ c.node.ensures.tree in
    record { class = ap class_of tree; number = ap number_in tree }
