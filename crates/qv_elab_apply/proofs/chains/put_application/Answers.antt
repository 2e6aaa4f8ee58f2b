use Rattle.std.proofs.Common.{◌≡◌, IfOk, ap, sym, subst, ◌∙◌}
use Rattle.qv_words.specs.Tree.{Apply}
use Rattle.qv_words.specs.Sorted.{IsSorted}
use Rattle.qv_store.specs.Nodes.{trees_at}
use Rattle.qv_store.specs.Stores.{StandsAt}
use Rattle.qv_store.specs.Walks.{named}
use Rattle.qv_elab_defs.specs.Applying.{in_trees}
use Rattle.qv_elab_defs.proofs.Ranked.{sorted-named, trees_at-named}
use Rattle.qv_elab_apply.proofs.chains.put_application.Goals as goal

pub put-requires-clause-sorted : goal.put-requires-clause-sorted
put-requires-clause-sorted c =
    let kids : trees_at c.args.store.now c.in_ok-kids.kids.items ≡ in_trees (named c.args.store.now c.args.kids.now) =
    ap (trees_at c.args.store.now) c.in_ok-kids.ensures.ok ∙ trees_at-named c.args.store.now c.args.kids.now in
    subst (λ ts. IsSorted (Apply c.args.op ts)) (sym kids) (sorted-named c.args.store.now c.len-terms.ensures.shared c.args.op c.args.kids.now c.requires.kids c.requires.rank)

pub returns-clause-id : goal.returns-clause-id
returns-clause-id c =
    let kids : trees_at c.args.store.now c.in_ok-kids.kids.items ≡ in_trees (named c.args.store.now c.args.kids.now) =
    ap (trees_at c.args.store.now) c.in_ok-kids.ensures.ok ∙ trees_at-named c.args.store.now c.args.kids.now in
    subst (λ ts. IfOk c.put.result (λ id. StandsAt c.put.new.self id (Apply c.args.op ts))) kids c.put.ensures.id
