-- none of the offers so far
use Rattle.std.proofs.Common.{◌≡◌, take}
use Rattle.std.specs.List.{AllByRecursion}
use Rattle.qv_choose_candidates.specs.Offers.{FailsAt, Stays}
use Rattle.qv_choose.proofs.trying.first_offer.Given as goal

abbrev pub invariant-offers : goal.invariant-offers
invariant-offers l = record {
  same : l.point ≡ l.fn.point;
  fails : AllByRecursion (FailsAt (Stays l.fn.point l.store l.region l.trial.sight.place) l.trial.sight.place l.store) (take l.offer-index l.offers);
}
