use borrow.Author.Tests.{ltb-true, ltb-false}
use Rattle.std.proofs.Common.{ap, ◌∙◌, sym, arith}
use Rattle.qv_words.specs.Prenex.{own_choice}
use Rattle.qv_store.specs.Nodes.{trees_at}
use Rattle.qv_prenex_splits.proofs.Choices.{few-no_choice, many-no_choice}
use Rattle.qv_prenex_splits.proofs.splitting.own_ite.Goals as goal
use Rattle.qv_prenex_splits.proofs.splitting.own_ite.Goals.{in_default-kids-via-then-kids-lt3, in_default-kids-via-else-kids-lt3+else-kids-lt4}

pub returns-in_default-kids-clause-own : goal.returns-in_default-kids-clause-own
returns-in_default-kids-clause-own c =
    elim c.in_default-kids.branch [
      | in_default-kids-via-then-kids-lt3 w ↦ few-no_choice c.args.store.now c.args.kids.now (omega (arith, ltb-true)) ∙ ap (λ o. own_choice o (trees_at c.args.store.now c.args.kids.now)) (sym c.in-Ite.is)
      | in_default-kids-via-else-kids-lt3+else-kids-lt4 w ↦ many-no_choice c.args.store.now c.args.kids.now (omega (arith, ltb-false)) ∙ ap (λ o. own_choice o (trees_at c.args.store.now c.args.kids.now)) (sym c.in-Ite.is)
    ]
