use Rattle.std.proofs.Common.{ℕ, List, reverse, subst, sym}
use Rattle.qv_store.proofs.Visiting.{on-ok}
use Rattle.qv_choose.specs.Splitting.{IsSplit}
use Rattle.qv_choose.proofs.Splits.{split-and, split-part}
use Rattle.qv_choose.proofs.splitting.split_next.Goals as goal

pub returns-in-Some-clause-split : goal.returns-in-Some-clause-split
returns-in-Some-clause-split c =
    on-ok c.wait.result
    (λ e whole s. subst (λ (ids : List ℕ). IsSplit c.args.store.now whole ids c.args.parts.now.items) (sym e)
    (split-and c.args.store.now whole c.args.next _ _ (reverse c.args.waiting.now.items) c.args.parts.now.items c.in-Some.ensures s))
    c.wait.ensures.waiting

pub returns-clause-split : goal.returns-clause-split
returns-clause-split c = λ whole s.
    subst (λ (ids : List ℕ). IsSplit c.args.store.now whole (reverse c.args.waiting.now.items) ids) (sym c.in_ok-push.ensures.items)
    (split-part c.args.store.now whole c.args.next (reverse c.args.waiting.now.items) c.args.parts.now.items s)
