use Rattle.std.proofs.Common.{sym, subst}
use Rattle.qv_words.specs.Sorted.{IsSorted, no_levels}
use Rattle.qv_store.specs.Nodes.{tree_at}
use Rattle.qv_store.specs.Stores.{StandsAt}
use Rattle.qv_store.proofs.Replacement.{if-ok}
use Rattle.qv_prenex_splits.proofs.PutFor.{put-sorted}
use Rattle.qv_prenex_splits.proofs.Ruling.{put-is}
use Rattle.qv_prenex_splits.proofs.splitting.put_for.Goals as goal

pub rebuild_term-requires-clause-sorted : goal.rebuild_term-requires-clause-sorted
rebuild_term-requires-clause-sorted c =
    let trees = c.args.store.now in
    subst IsSorted (sym (put-is trees c.args.ite.now (tree_at trees c.args.put) (tree_at trees c.args.id) c.requires.ite))
    (put-sorted no_levels (tree_at trees c.args.ite.now.whole) (tree_at trees c.args.put) (tree_at trees c.args.id) c.requires.sort
    (c.requires.shared.sorted c.args.put c.requires.put) (c.requires.shared.sorted c.args.id c.requires.id))

pub returns-clause-id : goal.returns-clause-id
returns-clause-id c =
    let trees = c.args.store.now in
    if-ok c.rebuild_term.result (λ new at. subst (StandsAt c.rebuild_term.new.store new) (put-is trees c.args.ite.now (tree_at trees c.args.put) (tree_at trees c.args.id) c.requires.ite) at) c.rebuild_term.ensures.id
