use Rattle.qv_cnf.specs.LratLine.{lines_of}
use Rattle.qv_store.proofs.Replacement.{if-ok}
use Rattle.qv_game_outside.proofs.Models.{none-of-base}
use Rattle.qv_game_outside.proofs.refuting.have_no_model.Goals as goal

pub returns-then-closed : goal.returns-then-closed
returns-then-closed c = λ yes formulas has.
    let list = c.args.clauses.now in
    none-of-base c.rup_is_true.ensures list.live formulas has
    (c.refuted_has_no_model.ensures list.live (lines_of c.in_ok-closed.closed.steps.items) c.may_add-rising.ensures.listing.rises (c.in_ok-closed.ensures.refutes c.if-closed.true))

pub returns : goal.returns
returns c =
    if-ok c.finds_none.result
    (λ none given yes formulas has. none-of-base c.rup_is_true.ensures c.in_ok-laid.laid.core.base formulas (c.in_ok-laid.ensures.base formulas has) (given yes)) c.finds_none.ensures
