use Rattle.std.proofs.Common.{◌≡◌, List, Option, ap, sym, ◌∙◌, subst}
use Rattle.std.specs.Prelude.{All}
use Rattle.std.specs.List.{flat_map}
use Rattle.std.proofs.lemmas.List.Elements.{All-from_recursion}
use Rattle.qv_words.specs.Word.{word_sort, word_value}
use Rattle.qv_words.specs.Tree.{Literal}
use Rattle.qv_words.specs.Choice.{candidates_of}
use Rattle.qv_store.specs.Nodes.{tree_at}
use Rattle.qv_store.specs.Stores.{StandsAt}
use Rattle.qv_store.specs.Walks.{named}
use Rattle.qv_choose_candidates.specs.declared.offers.Offer.{Offer}
use Rattle.qv_choose_paths.specs.declared.seeing.Sight.{Sight}
use Rattle.qv_choose_candidates.specs.Offers.{AreOffers, Finds, IsReady, Stays}
use Rattle.qv_choose_candidates.specs.Chosen.{IsOtherChoice, IsPut}
use Rattle.qv_choose_clauses.proofs.Placed.{if-other}
use Rattle.qv_choose_candidates.proofs.ChoiceUses.{found-choice, literal-choice}
use Rattle.qv_choose.proofs.choosing.choose_other.Goals as goal

pub first_offer-requires-clause-ready : goal.first_offer-requires-clause-ready
first_offer-requires-clause-ready c =
    let all : AreOffers c.args.trial.now.sight.place c.args.store.now c.args.trial.now.sight.walk (flat_map (candidates_of c.args.trial.now.sight.place.level) (named c.args.store.now c.args.trial.now.sight.walk)) c.in_ok-offers.offers.items =
    c.in_ok-offers.ensures in
    subst (λ (os : List Offer). All (IsReady c.args.trial.now.sight.place c.args.store.now c.args.trial.now.sight.walk) os) (sym c.deref.ensures.value)
    (All-from_recursion (IsReady c.args.trial.now.sight.place c.args.store.now c.args.trial.now.sight.walk) c.in_ok-offers.offers.items all.ready)

pub put_offer-requires-clause-scene : goal.put_offer-requires-clause-scene
put_offer-requires-clause-scene c = c.requires.trial.sight.scene

pub put_offer-requires-clause-ready : goal.put_offer-requires-clause-ready
put_offer-requires-clause-ready c =
    (subst (λ (o : Option Offer). Finds (Stays c.args.point.now c.args.store.now c.args.region c.args.trial.now.sight.place) c.args.trial.now.sight.place c.args.store.now c.args.trial.now.sight.walk c.deref.result.now o) c.in-Some.is c.in_ok-offer.ensures.found).ready

pub returns-in-Some-clause-choice : goal.returns-in-Some-clause-choice
returns-in-Some-clause-choice c =
    let all : AreOffers c.args.trial.now.sight.place c.args.store.now c.args.trial.now.sight.walk (flat_map (candidates_of c.args.trial.now.sight.place.level) (named c.args.store.now c.args.trial.now.sight.walk)) c.in_ok-offers.offers.items =
    c.in_ok-offers.ensures in
    let found = subst (λ (os : List Offer). Finds (Stays c.args.point.now c.args.store.now c.args.region c.args.trial.now.sight.place) c.args.trial.now.sight.place c.args.store.now c.args.trial.now.sight.walk os c.in_ok-offer.field-0) c.deref.ensures.value c.in_ok-offer.ensures.found in
    if-other c.put_offer.result (IsPut c.args.trial.now.sight.place c.args.store.now c.in-Some.offer c.put_offer.new.store) (IsOtherChoice c.args.point.now c.args.place (tree_at c.args.store.now c.args.region) c.put_offer.new.store)
    (λ id put. found-choice c.args.point.now c.args.store.now c.args.region c.args.trial.now.sight c.in_ok-offers.offers.items c.requires.trial.sight all c.args.place c.in-Some.offer c.in_ok-offer.field-0 c.put_offer.new.store id c.requires.place c.in-Some.is found put)
    c.put_offer.ensures.put

pub returns-clause-choice : goal.returns-clause-choice
returns-clause-choice c =
    let all : AreOffers c.args.trial.now.sight.place c.args.store.now c.args.trial.now.sight.walk (flat_map (candidates_of c.args.trial.now.sight.place.level) (named c.args.store.now c.args.trial.now.sight.walk)) c.in_ok-offers.offers.items =
    c.in_ok-offers.ensures in
    let found = subst (λ (os : List Offer). Finds (Stays c.args.point.now c.args.store.now c.args.region c.args.trial.now.sight.place) c.args.trial.now.sight.place c.args.store.now c.args.trial.now.sight.walk os c.in_ok-offer.field-0) c.deref.ensures.value c.in_ok-offer.ensures.found in
    if-other c.put_literal.result (λ id. StandsAt c.put_literal.new.store id (Literal (word_sort c.index-point-place.result) (word_value c.index-point-place.result))) (IsOtherChoice c.args.point.now c.args.place (tree_at c.args.store.now c.args.region) c.put_literal.new.store)
    (λ id stands. literal-choice c.args.point.now c.args.store.now c.args.region c.args.trial.now.sight c.in_ok-offers.offers.items c.requires.trial.sight all c.first_offer.new.point c.args.place c.index-point-place.result c.in_ok-offer.field-0 c.put_literal.new.store id
    c.requires.place c.in-None.is c.in_ok-offer.ensures.same c.requires.level c.index-point-place.is found stands)
    c.put_literal.ensures.id
