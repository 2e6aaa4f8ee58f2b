use Rattle.std.proofs.Common.{◌≡◌, ℕ, List, [], Some, map, take, slice_get, sym, ap, ◌∙◌, subst}
use Rattle.std.specs.List.{flat_map}
use Rattle.std.proofs.lemmas.Option.{slice_get-get_or}
use Rattle.qv_words.specs.Tree.{Tree}
use Rattle.qv_words.specs.Choice.{candidates_of}
use Rattle.qv_store.specs.Nodes.{tree_at}
use Rattle.qv_store.specs.Walks.{named}
use Rattle.qv_choose_candidates.specs.declared.offers.Offer.{Offer}
use Rattle.qv_choose_candidates.specs.Offers.{AreOffers}
use Rattle.qv_choose_paths.proofs.SceneLaws.{item-earlier}
use Rattle.qv_choose_candidates.proofs.ListLaws.{flat-map, take-past, no-offers, next-offers}
use Rattle.qv_choose_candidates.proofs.offering.offers_of.Goals as goal

pub terms-init : goal.terms-init
terms-init c =
    record { offers = subst (λ (os : List Offer). AreOffers c.args.sight.now.place c.args.store.now c.args.sight.now.walk [] os) (sym c.new-offers.ensures.items) (no-offers c.args.sight.now.place c.args.store.now c.args.sight.now.walk) }

pub add_term-requires-clause-id : goal.add_term-requires-clause-id
add_term-requires-clause-id c = item-earlier c.ids-term-items.result.now c.args.sight.now.walk c.terms.term-index c.term-item.result c.ids-term-items.ensures c.terms-test.true c.term-item.is

pub terms-preserved : goal.terms-preserved
terms-preserved c =
    let at : slice_get c.ids-term-items.result.now c.terms.term-index ≡ Some c.term-item.result =
    slice_get-get_or c.ids-term-items.result.now c.terms.term-index c.term-item.result c.terms-test.true ∙ ap (λ n. Some n) (sym c.term-item.is) in
    record {
      offers =
          next-offers c.args.sight.now.place c.args.store.now c.args.sight.now.walk (λ n. candidates_of c.args.sight.now.place.level (tree_at c.args.store.now n)) c.ids-term-items.result.now c.terms.term-index c.term-item.result
          c.terms.offers.items c.add_term.new.offers.items at c.terms.invariant.offers c.in_ok-add_term.ensures;
    }

pub returns : goal.returns
returns c =
    let place = c.args.sight.now.place in
    let all : flat_map (λ n. candidates_of place.level (tree_at c.args.store.now n)) (take c.terms.term-index c.ids-term-items.result.now) ≡ flat_map (candidates_of place.level) (named c.args.store.now c.args.sight.now.walk) =
    ap (flat_map (λ n. candidates_of place.level (tree_at c.args.store.now n))) (take-past c.ids-term-items.result.now c.terms.term-index c.terms-test.false)
    ∙ sym (flat-map (candidates_of place.level) (tree_at c.args.store.now) c.ids-term-items.result.now)
    ∙ ap (λ ids. flat_map (candidates_of place.level) (named c.args.store.now ids)) c.ids-term-items.ensures in
    subst (λ (ts : List Tree). AreOffers place c.args.store.now c.args.sight.now.walk ts c.terms.offers.items) all c.terms.invariant.offers
