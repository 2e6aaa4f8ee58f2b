use Rattle.std.proofs.Common.{ap, ◌∙◌}
use Rattle.qv_store.specs.Nodes.{tree_at}
use Rattle.qv_store.specs.Walks.{with_subtrees, named}
use Rattle.qv_store.proofs.Subtrees.{subtrees-nodes}
use Rattle.qv_store.proofs.Visiting.{on-ok}
use Rattle.qv_store.proofs.walk.Walk.visit.Goals as goal

pub returns-else-is_err-clause-nodes : goal.returns-else-is_err-clause-nodes
returns-else-is_err-clause-nodes c = λ free.
    let trees = c.args.store.now in
    let old = c.args.self.now in
    on-ok c.visit_all-visited.result
    (λ order. order ∙ ap (λ ids. with_subtrees (named trees ids) (tree_at trees c.args.id)) c.self.view_is ∙ subtrees-nodes (named trees old) (tree_at trees c.args.id) free)
    c.visit_all-visited.ensures.order
