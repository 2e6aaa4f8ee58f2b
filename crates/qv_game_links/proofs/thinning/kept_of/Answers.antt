use Rattle.std.proofs.Common.{◌≡◌, ◌-◌, ◌<◌, ℕ, suc, length, subst, arith}
use Rattle.qv_game_links.specs.Thinning.{AreKept}
use Rattle.qv_game_links.proofs.Thinned.{at-number, more-kept}
use Rattle.qv_game_links.proofs.thinning.kept_of.Goals as goal

pub links-preserved : goal.links-preserved
links-preserved c =
    let trees = c.args.store.now in
    let links = c.args.links.now in
    let some = c.links-test.true in
    let within = c.links.invariant.0 in
    let low : c.links.left - 1 < length links = omega (arith, some, within) in
    let next : c.links.left ≡ suc (c.links.left - 1) = omega (arith, some) in (
      omega (arith, within),
      more-kept trees c.args.known.now c.args.entries.now links (c.links.left - 1) _ c.links.kept.items c.consider.new.kept.items (at-number links (c.links.left - 1) _ low) c.in_ok-consider.ensures
          (subst (λ (n : ℕ). AreKept trees c.args.known.now c.args.entries.now links n c.links.kept.items) next c.links.invariant.1),
    )
