-- those of the targets so far
use Rattle.std.proofs.Common.{take}
use Rattle.std.specs.List.{flat_map}
use Rattle.std.specs.Option.{option_to_list}
use Rattle.qv_choose_candidates.specs.declared.offers.Offer.TheVariants.{Down}
use Rattle.qv_choose_candidates.specs.Offers.{AddsOffers, offered}
use Rattle.qv_choose_candidates.proofs.offering.add_down.Given as goal

abbrev pub invariant-targets : goal.invariant-targets
invariant-targets l = record {
  adds : AddsOffers l.sight.place l.store l.sight.walk (flat_map (λ k. option_to_list (offered l.sight.place l.store (Down l.side l.other k))) (take l.target-index l.targets)) l.fn.offers.items l.offers.items;
}
