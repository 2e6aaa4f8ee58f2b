use Rattle.std.proofs.Common.{◌≡◌, None, sym, ◌∙◌}
use Rattle.qv_words.specs.Prenex.{first_choice}
use Rattle.qv_store.specs.Nodes.{tree_at}
use Rattle.qv_prenex_splits.proofs.Choices.{plain-bare, bare-next}
use Rattle.qv_prenex_splits.proofs.splitting.first_kid.Goals as goal
use Rattle.qv_prenex_splits.proofs.splitting.first_kid.Goals.{else-quantified-via-then-quantified+else-not-contains, else-quantified-via-else-quantified}

pub loop-kid-preserved : goal.loop-kid-preserved
loop-kid-preserved c =
    let none : first_choice (tree_at c.args.store.now c.kid-item.result) ≡ None =
    elim c.else-quantified.branch [
      | else-quantified-via-then-quantified+else-not-contains w ↦ c.requires.bare c.kid-item.result (sym w.contains.ensures ∙ w.if-not-contains.false)
      | else-quantified-via-else-quantified w ↦ plain-bare (tree_at c.args.store.now c.kid-item.result) (sym c.quantified.ensures.quantified ∙ w.if-quantified.false)
    ] in
    c.loop-kid.invariant ∙ bare-next c.args.store.now c.args.kids.now c.loop-kid.kid-index c.kid-item.result c.loop-kid-test.true c.kid-item.is none
