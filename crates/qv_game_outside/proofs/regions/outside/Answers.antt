use Rattle.std.proofs.Common.{sym, ◌∙◌}
use Rattle.qv_game_outside.proofs.Denials.{none-left, some-of_test, sorts-at, terms-joined}
use Rattle.qv_game_outside.proofs.regions.outside.Goals as goal

pub conjoin-requires-clause-bool : goal.conjoin-requires-clause-bool
conjoin-requires-clause-bool c = sorts-at c.args.store.now c.args.denials.now c.requires.denial_terms

pub are_refuted-requires-clause-terms : goal.are_refuted-requires-clause-terms
are_refuted-requires-clause-terms c =
    terms-joined c.args.store.now c.conjoin.new.store c.in_ok-region.region c.args.denials.now c.args.asked.now c.deref.result.now c.in_ok-region.ensures.grows c.in_ok-region.ensures.id
    c.requires.denial_terms c.requires.asked c.requires.asked_terms (c.deref.ensures.value ∙ c.in_ok-formulas.ensures)

pub returns-then-branch-clause-none : goal.returns-then-branch-clause-none
returns-then-branch-clause-none c =
    none-left c.args.store.now c.conjoin.new.store c.args.denials.now c.args.asked.now c.deref.result.now c.in_ok-region.region c.in_ok-region.ensures.grows
    (some-of_test c.args.denials.now (sym c.is_empty.ensures ∙ c.if-is_empty.false)) c.requires.asked c.in_ok-region.ensures.id (c.deref.ensures.value ∙ c.in_ok-formulas.ensures)
    (c.in_ok-are_refuted.ensures c.if-branch.true)
