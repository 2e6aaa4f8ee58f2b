-- those of the terms so far
use Rattle.std.proofs.Common.{take}
use Rattle.std.specs.List.{flat_map}
use Rattle.qv_words.specs.Choice.{candidates_of}
use Rattle.qv_store.specs.Nodes.{tree_at}
use Rattle.qv_choose_candidates.specs.Offers.{AreOffers}
use Rattle.qv_choose_candidates.proofs.offering.offers_of.Given as goal

abbrev pub invariant-terms : goal.invariant-terms
invariant-terms l = record {
  offers : AreOffers l.sight.place l.store l.sight.walk (flat_map (λ n. candidates_of l.sight.place.level (tree_at l.store n)) (take l.term-index l.term-items)) l.offers.items;
}
