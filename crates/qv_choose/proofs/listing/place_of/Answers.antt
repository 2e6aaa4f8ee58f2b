use Rattle.std.proofs.Common.{◌≡◌, ap, sym, subst, ◌∙◌}
use Rattle.qv_words.specs.Tree.{Tree, Variable}
use Rattle.qv_store.specs.Nodes.{tree_at, node_tree}
use Rattle.qv_choose.specs.Listing.{IsPlaceOf}
use Rattle.qv_choose.proofs.Lists.{place-of_variable}
use Rattle.qv_choose.proofs.listing.place_of.Goals as goal

pub returns-in-Var : goal.returns-in-Var
returns-in-Var c =
    let tree : Variable c.in-Var.level c.in-Var.sort ≡ tree_at c.args.store.now c.args.term = ap (node_tree c.args.store.now) (sym c.in-Var.is) ∙ c.node.ensures.tree in
    subst (λ (t : Tree). IsPlaceOf c.args.first c.args.many t c.place_at.result) tree
    (place-of_variable c.args.first c.args.many c.in-Var.level c.in-Var.sort c.place_at.result c.place_at.ensures)
