use Rattle.std.proofs.Common.{◌≡◌, ◌<◌, List, Some, length, map, slice_get, ap, sym, ◌∙◌}
use Rattle.std.proofs.lemmas.Option.{slice_get-get_or}
use Rattle.std.proofs.lemmas.List.Elements.{recursion_from_All, All-from_recursion}
use Rattle.qv_words.proofs.Elements.{all-at}
use Rattle.qv_store.proofs.Replacement.{grows-more}
use Rattle.qv_choose_candidates.specs.Offers.{offered, IsReady}
use Rattle.qv_choose_paths.proofs.SceneLaws.{scene-grows}
use Rattle.qv_choose_candidates.proofs.ListLaws.{take-past}
use Rattle.qv_choose_candidates.proofs.OfferLaws.{ready-grows, next-put, next-below}
use Rattle.qv_choose_candidates.proofs.putting.put_offers.Goals as goal

pub put_offer-requires-clause-ready : goal.put_offer-requires-clause-ready
put_offer-requires-clause-ready c =
    let at : slice_get c.args.offers.now c.offers.offer-index ≡ Some c.offer-item.result =
    slice_get-get_or c.args.offers.now c.offers.offer-index c.offer-item.result c.offers-test.true ∙ ap (λ o. Some o) (sym c.offer-item.is) in
    ready-grows c.args.store.now c.offers.store c.args.sight.now c.offer-item.result c.offers.invariant.grows c.requires.scene
    (all-at (IsReady c.args.sight.now.place c.args.store.now c.args.sight.now.walk) c.args.offers.now c.offers.offer-index c.offer-item.result (recursion_from_All (IsReady c.args.sight.now.place c.args.store.now c.args.sight.now.walk) c.args.offers.now c.requires.ready) at)

pub offers-preserved : goal.offers-preserved
offers-preserved c =
    let at : slice_get c.args.offers.now c.offers.offer-index ≡ Some c.offer-item.result =
    slice_get-get_or c.args.offers.now c.offers.offer-index c.offer-item.result c.offers-test.true ∙ ap (λ o. Some o) (sym c.offer-item.is) in
    record {
      grows = grows-more c.args.store.now c.offers.store c.put_offer.new.store c.offers.invariant.grows c.put_offer.ensures.grows;
      scene = scene-grows c.offers.store c.put_offer.new.store c.args.sight.now c.put_offer.ensures.grows c.in_ok-id.ensures.shared c.offers.invariant.scene;
      below = next-below c.offers.store c.put_offer.new.store c.offers.ids.items c.push.new.self.items c.in_ok-id.id c.put_offer.ensures.grows c.offers.invariant.below c.in_ok-id.ensures.put.stands.below c.in_ok-push.ensures.items;
      terms =
          next-put c.args.store.now c.offers.store c.put_offer.new.store c.args.sight.now c.args.offers.now c.offers.offer-index c.offer-item.result c.offers.ids.items c.push.new.self.items c.in_ok-id.id at c.offers.invariant.grows
          c.put_offer.ensures.grows c.requires.scene (all-at (IsReady c.args.sight.now.place c.args.store.now c.args.sight.now.walk) c.args.offers.now c.offers.offer-index c.offer-item.result (recursion_from_All (IsReady c.args.sight.now.place c.args.store.now c.args.sight.now.walk) c.args.offers.now c.requires.ready) at) c.offers.invariant.below
          c.in_ok-id.ensures.put c.in_ok-push.ensures.items c.offers.invariant.terms;
    }

pub returns-clause-put : goal.returns-clause-put
returns-clause-put c = c.offers.invariant.terms ∙ ap (map (offered c.args.sight.now.place c.args.store.now)) (take-past c.args.offers.now c.offers.offer-index c.offers-test.false)

pub returns-clause-below : goal.returns-clause-below
returns-clause-below c = All-from_recursion (λ id. id < length c.offers.store) c.offers.ids.items c.offers.invariant.below

pub returns-in_err-id-clause-grows : goal.returns-in_err-id-clause-grows
returns-in_err-id-clause-grows c = grows-more c.args.store.now c.offers.store c.put_offer.new.store c.offers.invariant.grows c.put_offer.ensures.grows

pub returns-in_err-push-clause-grows : goal.returns-in_err-push-clause-grows
returns-in_err-push-clause-grows c = grows-more c.args.store.now c.offers.store c.put_offer.new.store c.offers.invariant.grows c.put_offer.ensures.grows

pub returns-clause-grows : goal.returns-clause-grows
returns-clause-grows c = c.offers.invariant.grows

pub returns-clause-shared : goal.returns-clause-shared
returns-clause-shared c = c.offers.invariant.scene.shared

pub put_offer-requires-clause-scene : goal.put_offer-requires-clause-scene
put_offer-requires-clause-scene c = c.offers.invariant.scene
