use Rattle.std.proofs.Common.{◌≡◌, [], Some, sym, subst}
use Rattle.std.specs.Prelude.{IfOk}
use Rattle.qv_store.specs.Evaluating.{IsWordOf}
use Rattle.qv_choose_candidates.specs.declared.offers.Offer.{Offer}
use Rattle.qv_choose_candidates.specs.Offers.{offered, IsReady, Decides, Stays}
use Rattle.qv_choose_candidates.proofs.TrialUses.{decides-other, truth-sort, truth-held}
use Rattle.qv_choose.proofs.trying.keeps_true.Goals as goal

pub stays_true-requires-clause-sort : goal.stays_true-requires-clause-sort
stays_true-requires-clause-sort c =
    truth-sort c.args.point.now c.args.store.now c.args.region c.args.trial.now c.truth.result c.requires.trial
    (subst (λ (o : Offer). IsReady c.args.trial.now.sight.place c.args.store.now c.args.trial.now.sight.walk o) c.in-Truth.is c.requires.ready) c.truth.ensures.sort

pub keeps_true_down-requires-clause-aim : goal.keeps_true_down-requires-clause-aim
keeps_true_down-requires-clause-aim c = subst (λ (o : Offer). IsReady c.args.trial.now.sight.place c.args.store.now c.args.trial.now.sight.walk o) c.in-Down.is c.requires.ready

pub returns-in-Truth-clause-good : goal.returns-in-Truth-clause-good
returns-in-Truth-clause-good c =
    decides-other c.stays_true.result (Stays c.args.point.now c.args.store.now c.args.region c.args.trial.now.sight.place) (λ u. IsWordOf [] c.args.point.now u c.truth.result)
    (λ u. offered c.args.trial.now.sight.place c.args.store.now c.args.offer ≡ Some u)
    (λ u e. truth-held c.args.point.now c.args.trial.now.sight.place c.args.store.now c.args.offer c.in-Truth.holds c.truth.result u c.in-Truth.is c.truth.ensures.sort c.truth.ensures.value e)
    c.stays_true.ensures.held

pub returns-in-Down-clause-good : goal.returns-in-Down-clause-good
returns-in-Down-clause-good c =
    subst (λ (o : Offer). IfOk c.keeps_true_down.result (Decides (Stays c.args.point.now c.args.store.now c.args.region c.args.trial.now.sight.place) (λ u. offered c.args.trial.now.sight.place c.args.store.now o ≡ Some u))) (sym c.in-Down.is) c.keeps_true_down.ensures.good
