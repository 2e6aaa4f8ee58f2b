use Rattle.std.proofs.Common.{◌≡◌, List, [], Some, map, take, get_or, slice_get, ap, sym, ◌∙◌, subst, refl}
use Rattle.std.specs.List.{flat_map}
use Rattle.std.specs.Option.{option_to_list}
use Rattle.std.proofs.lemmas.Option.{slice_get-get_or}
use Rattle.qv_words.specs.Tree.{Tree}
use Rattle.qv_words.specs.Choice.{candidates_down, descend}
use Rattle.qv_store.specs.Nodes.{tree_at}
use Rattle.qv_choose_candidates.specs.declared.offers.Target.TheVariants.{Less}
use Rattle.qv_choose_candidates.specs.declared.offers.Offer.TheVariants.{Down}
use Rattle.qv_choose_paths.specs.Rows.{sort_at}
use Rattle.qv_choose_candidates.specs.Targets.{target_tree}
use Rattle.qv_choose_candidates.specs.Offers.{AddsOffers, offered}
use Rattle.qv_choose_candidates.proofs.ListLaws.{flat-map, take-past, adds-none, next-adds}
use Rattle.qv_choose_candidates.proofs.offering.add_down.Goals as goal

pub targets-init : goal.targets-init
targets-init c = record { adds = adds-none c.args.sight.now.place c.args.store.now c.args.sight.now.walk [] c.args.offers.now.items refl }

pub targets-preserved : goal.targets-preserved
targets-preserved c =
    let at : slice_get c.args.targets.now c.targets.target-index ≡ Some (get_or c.args.targets.now c.targets.target-index Less) = slice_get-get_or c.args.targets.now c.targets.target-index Less c.targets-test.true in
    record {
      adds =
          next-adds c.args.sight.now.place c.args.store.now c.args.sight.now.walk (λ k. option_to_list (offered c.args.sight.now.place c.args.store.now (Down c.args.side c.args.other k))) c.args.targets.now c.targets.target-index
          (get_or c.args.targets.now c.targets.target-index Less) c.args.offers.now.items c.targets.offers.items c.add_target.new.offers.items at c.targets.invariant.adds c.in_ok-add_target.ensures;
    }

pub returns : goal.returns
returns c =
    let all : flat_map (λ k. option_to_list (offered c.args.sight.now.place c.args.store.now (Down c.args.side c.args.other k))) (take c.targets.target-index c.args.targets.now)
    ≡ candidates_down c.args.sight.now.place.level (tree_at c.args.store.now c.args.side) (map (λ k. target_tree k (sort_at c.args.store.now c.args.other) (tree_at c.args.store.now c.args.other)) c.args.targets.now) =
    ap (flat_map (λ k. option_to_list (offered c.args.sight.now.place c.args.store.now (Down c.args.side c.args.other k)))) (take-past c.args.targets.now c.targets.target-index c.targets-test.false)
    ∙ sym (flat-map (λ t. option_to_list (descend c.args.sight.now.place.level (tree_at c.args.store.now c.args.side) t)) (λ k. target_tree k (sort_at c.args.store.now c.args.other) (tree_at c.args.store.now c.args.other)) c.args.targets.now) in
    subst (λ (ts : List Tree). AddsOffers c.args.sight.now.place c.args.store.now c.args.sight.now.walk ts c.args.offers.now.items c.targets.offers.items) all c.targets.invariant.adds
