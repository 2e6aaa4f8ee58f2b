-- the terms of the offers so far
use Rattle.std.proofs.Common.{◌≡◌, ◌<◌, Some, length, map, take}
use Rattle.std.specs.List.{AllByRecursion}
use Rattle.qv_store.specs.Stores.{Grows}
use Rattle.qv_store.specs.Walks.{named}
use Rattle.qv_choose_paths.specs.Sights.{IsScene}
use Rattle.qv_choose_candidates.specs.Offers.{offered}
use Rattle.qv_choose_candidates.proofs.putting.put_offers.Given as goal

abbrev pub invariant-offers : goal.invariant-offers
invariant-offers l = record {
  grows : Grows l.fn.store l.store;
  scene : IsScene l.store l.sight;
  below : AllByRecursion (λ id. id < length l.store) l.ids.items;
  terms : map Some (named l.store l.ids.items) ≡ map (offered l.sight.place l.fn.store) (take l.offer-index l.offers);
}
