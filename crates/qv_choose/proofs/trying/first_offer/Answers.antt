use Rattle.std.proofs.Common.{◌≡◌, List, Some, slice_get, ap, sym, ◌∙◌, subst}
use Rattle.std.specs.List.{AllByRecursion}
use Rattle.std.proofs.lemmas.Option.{slice_get-get_or}
use Rattle.std.proofs.lemmas.List.Elements.{recursion_from_All}
use Rattle.qv_words.specs.declared.word.Word.{Word}
use Rattle.qv_words.proofs.Elements.{all-at}
use Rattle.qv_choose_candidates.specs.declared.offers.Offer.{Offer}
use Rattle.qv_choose_paths.specs.Sights.{IsTrial}
use Rattle.qv_choose_candidates.specs.Offers.{offered, Decides, FailsAt, IsReady, Stays}
use Rattle.qv_choose_candidates.proofs.ListLaws.{take-past, next-fails, first-found}
use Rattle.qv_choose.proofs.trying.first_offer.Goals as goal

pub keeps_true-requires-clause-trial : goal.keeps_true-requires-clause-trial
keeps_true-requires-clause-trial c = subst (λ (point : List Word). IsTrial point c.args.store.now c.args.region c.args.trial.now) (sym c.offers.invariant.same) c.requires.trial

pub keeps_true-requires-clause-ready : goal.keeps_true-requires-clause-ready
keeps_true-requires-clause-ready c =
    let at : slice_get c.args.offers.now c.offers.offer-index ≡ Some c.offer-item.result =
    slice_get-get_or c.args.offers.now c.offers.offer-index c.offer-item.result c.offers-test.true ∙ ap (λ o. Some o) (sym c.offer-item.is) in
    all-at (IsReady c.args.trial.now.sight.place c.args.store.now c.args.trial.now.sight.walk) c.args.offers.now c.offers.offer-index c.offer-item.result (recursion_from_All (IsReady c.args.trial.now.sight.place c.args.store.now c.args.trial.now.sight.walk) c.args.offers.now c.requires.ready) at

pub offers-preserved : goal.offers-preserved
offers-preserved c =
    let at : slice_get c.args.offers.now c.offers.offer-index ≡ Some c.offer-item.result =
    slice_get-get_or c.args.offers.now c.offers.offer-index c.offer-item.result c.offers-test.true ∙ ap (λ o. Some o) (sym c.offer-item.is) in
    let good : Decides (Stays c.args.point.now c.args.store.now c.args.region c.args.trial.now.sight.place) (λ u. offered c.args.trial.now.sight.place c.args.store.now c.offer-item.result ≡ Some u) c.in_ok-keeps_true.field-0 =
    subst (λ (point : List Word). Decides (Stays point c.args.store.now c.args.region c.args.trial.now.sight.place) (λ u. offered c.args.trial.now.sight.place c.args.store.now c.offer-item.result ≡ Some u) c.in_ok-keeps_true.field-0) c.offers.invariant.same c.in_ok-keeps_true.ensures.good in
    record {
      same = c.in_ok-keeps_true.ensures.same ∙ c.offers.invariant.same;
      fails = next-fails (Stays c.args.point.now c.args.store.now c.args.region c.args.trial.now.sight.place) c.args.trial.now.sight.place c.args.store.now c.args.trial.now.sight.walk c.args.offers.now c.offers.offer-index c.offer-item.result at c.offers.invariant.fails (λ u e. (good u e).1 c.if-branch.false);
    }

pub returns-then-branch-clause-found : goal.returns-then-branch-clause-found
returns-then-branch-clause-found c =
    let at : slice_get c.args.offers.now c.offers.offer-index ≡ Some c.offer-item.result =
    slice_get-get_or c.args.offers.now c.offers.offer-index c.offer-item.result c.offers-test.true ∙ ap (λ o. Some o) (sym c.offer-item.is) in
    let good : Decides (Stays c.args.point.now c.args.store.now c.args.region c.args.trial.now.sight.place) (λ u. offered c.args.trial.now.sight.place c.args.store.now c.offer-item.result ≡ Some u) c.in_ok-keeps_true.field-0 =
    subst (λ (point : List Word). Decides (Stays point c.args.store.now c.args.region c.args.trial.now.sight.place) (λ u. offered c.args.trial.now.sight.place c.args.store.now c.offer-item.result ≡ Some u) c.in_ok-keeps_true.field-0) c.offers.invariant.same c.in_ok-keeps_true.ensures.good in
    first-found (Stays c.args.point.now c.args.store.now c.args.region c.args.trial.now.sight.place) c.args.trial.now.sight.place c.args.store.now c.args.trial.now.sight.walk c.args.offers.now c.offers.offer-index c.offer-item.result at (recursion_from_All (IsReady c.args.trial.now.sight.place c.args.store.now c.args.trial.now.sight.walk) c.args.offers.now c.requires.ready) c.offers.invariant.fails (λ u e. (good u e).0 c.if-branch.true)

pub returns-clause-found : goal.returns-clause-found
returns-clause-found c = subst (λ (os : List Offer). AllByRecursion (FailsAt (Stays c.args.point.now c.args.store.now c.args.region c.args.trial.now.sight.place) c.args.trial.now.sight.place c.args.store.now) os) (take-past c.args.offers.now c.offers.offer-index c.offers-test.false) c.offers.invariant.fails
