use Rattle.std.proofs.Common.{◌≡◌, ◌&&◌, true, false, [], ◌∷◌, ap, sym, ◌∙◌}
use Rattle.std.specs.Option.{option_to_list}
use Rattle.qv_store.specs.Nodes.{tree_at}
use Rattle.qv_choose_candidates.specs.declared.offers.Offer.TheVariants.{Down}
use Rattle.qv_choose_paths.specs.Rows.{sort_at}
use Rattle.qv_choose_paths.specs.Looks.{has_inside}
use Rattle.qv_choose_candidates.specs.Targets.{has_other}
use Rattle.qv_choose_candidates.specs.Offers.{offered}
use Rattle.qv_choose_candidates.proofs.SideLaws.{down-passed, down-offered}
use Rattle.qv_choose_candidates.proofs.TrialUses.{walk-open, walk-free}
use Rattle.qv_choose_candidates.proofs.ListLaws.{adds-none, adds-some}
use Rattle.qv_choose_candidates.proofs.offering.add_target.Goals as goal

pub returns-then-both : goal.returns-then-both
returns-then-both c =
    let both : (has_inside c.args.sight.now.place (tree_at c.args.store.now c.args.other) && has_other c.args.target) ≡ true =
    ap (λ i. i && has_other c.args.target) (sym (ap (λ l. l.inside) c.look-inside.ensures)) ∙ ap (λ h. c.look-inside.result.inside && h) (sym c.has_other-has_other.ensures) ∙ sym c.both.ensures ∙ c.if-both.true in
    adds-none c.args.sight.now.place c.args.store.now c.args.sight.now.walk (option_to_list (offered c.args.sight.now.place c.args.store.now (Down c.args.side c.args.other c.args.target))) c.args.offers.now.items
    (down-passed c.args.sight.now.place (tree_at c.args.store.now c.args.side) (tree_at c.args.store.now c.args.other) c.args.target (sort_at c.args.store.now c.args.other)
    (walk-free c.args.store.now c.args.sight.now c.args.side c.requires.scene c.requires.aim.side_there) (walk-free c.args.store.now c.args.sight.now c.args.other c.requires.scene c.requires.aim.other_there)
    (walk-open c.args.store.now c.args.sight.now c.args.side c.requires.scene c.requires.aim.side_there c.requires.aim.way) both)

pub returns : goal.returns
returns c =
    let both : (has_inside c.args.sight.now.place (tree_at c.args.store.now c.args.other) && has_other c.args.target) ≡ false =
    ap (λ i. i && has_other c.args.target) (sym (ap (λ l. l.inside) c.look-inside.ensures)) ∙ ap (λ h. c.look-inside.result.inside && h) (sym c.has_other-has_other.ensures) ∙ sym c.both.ensures ∙ c.if-both.false in
    adds-some c.args.sight.now.place c.args.store.now c.args.sight.now.walk (option_to_list (offered c.args.sight.now.place c.args.store.now (Down c.args.side c.args.other c.args.target))) c.args.offers.now.items c.push.new.self.items
    (Down c.args.side c.args.other c.args.target ∷ [])
    (down-offered c.args.sight.now.place (tree_at c.args.store.now c.args.side) (tree_at c.args.store.now c.args.other) c.args.target (sort_at c.args.store.now c.args.other)
    (walk-free c.args.store.now c.args.sight.now c.args.side c.requires.scene c.requires.aim.side_there) (walk-free c.args.store.now c.args.sight.now c.args.other c.requires.scene c.requires.aim.other_there)
    (walk-open c.args.store.now c.args.sight.now c.args.side c.requires.scene c.requires.aim.side_there c.requires.aim.way) both)
    (c.requires.aim, tt) c.in_ok-push.ensures.items
