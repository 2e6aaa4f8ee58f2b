use Rattle.std.proofs.Common.{◌≡◌, List, Some, map, ap, sym, ◌∙◌, subst, refl}
use Rattle.std.specs.Prelude.{All}
use Rattle.std.proofs.lemmas.List.Elements.{All-from_recursion}
use Rattle.qv_store.specs.Nodes.{tree_at}
use Rattle.qv_store.specs.Walks.{named}
use Rattle.qv_choose_candidates.specs.declared.offers.Offer.{Offer}
use Rattle.qv_choose_candidates.specs.Offers.{offered, IsReady}
use Rattle.qv_choose_candidates.specs.Chosen.{others}
use Rattle.qv_choose_clauses.proofs.Placed.{if-other}
use Rattle.qv_choose_candidates.proofs.ChoiceUses.{all-others}
use Rattle.qv_choose_candidates.proofs.putting.others.Goals as goal

pub put_offers-requires-clause-ready : goal.put_offers-requires-clause-ready
put_offers-requires-clause-ready c =
    subst (λ (os : List Offer). All (IsReady c.args.sight.now.place c.args.store.now c.args.sight.now.walk) os) (sym c.deref.ensures.value)
    (All-from_recursion (IsReady c.args.sight.now.place c.args.store.now c.args.sight.now.walk) c.in_ok-offers.offers.items c.in_ok-offers.ensures.ready)

pub returns-clause-others : goal.returns-clause-others
returns-clause-others c =
    if-other c.put_offers.result (λ ids. map Some (named c.put_offers.new.store ids.items) ≡ map (offered c.args.sight.now.place c.args.store.now) c.deref.result.now)
    (λ ids. named c.put_offers.new.store ids.items ≡ others c.args.sight.now.place (tree_at c.args.store.now c.args.region))
    (λ ids put.
    all-others c.args.store.now c.put_offers.new.store c.args.region c.args.sight.now c.args.sight.now.place c.in_ok-offers.offers.items ids.items refl
    c.requires.sight c.in_ok-offers.ensures (put ∙ ap (map (offered c.args.sight.now.place c.args.store.now)) c.deref.ensures.value))
    c.put_offers.ensures.put
