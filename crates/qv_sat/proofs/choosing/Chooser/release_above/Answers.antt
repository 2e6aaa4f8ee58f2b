use Rattle.std.proofs.Common.{◌≡◌, ◌-◌, true, List, Bool, length, set, sym, ◌∙◌, ap, subst, arith}
use Rattle.std.proofs.lemmas.List.{length-set}
use Rattle.qv_sat_order.specs.Ranking.{Ranking, is_held}
use Rattle.qv_sat.proofs.Covering.{held_more, order_within, released_all, released_more}
use Rattle.qv_sat.proofs.choosing.Chooser.release_above.Goals as goal

pub release-requires : goal.release-requires
release-requires c =
    let t = c.args.trail.now in
    let inv = c.above.invariant in
    let low = order_within t.entries c.order-order.result.now (c.above.left - 1) (length c.args.self.now.order.held) c.index-order-left-in-above.result c.order-order.ensures.order (omega (arith, inv.left)) c.index-order-left-in-above.is c.requires.covers.within in
    omega (arith, inv.long)

pub above-preserved : goal.above-preserved
above-preserved c =
    let t = c.args.trail.now in
    let inv = c.above.invariant in
    let l = c.index-order-left-in-above.result in
    let old = c.above.self.order in
    let low = order_within t.entries c.order-order.result.now (c.above.left - 1) (length c.args.self.now.order.held) l c.order-order.ensures.order (omega (arith, inv.left)) c.index-order-left-in-above.is c.requires.covers.within in
    let same : c.release.new.self.order.held ≡ set old.held (l.variable - 1) true = ap (λ (r : Ranking). r.held) c.release.ensures.held in
    record {
      long = ap (λ (hs : List Bool). length hs) same ∙ length-set old.held (l.variable - 1) true ∙ inv.long;
      left = omega (arith, inv.left);
      kept = λ v on. subst (λ (hs : List Bool). is_held hs v ≡ true) (sym same) (held_more old.held (l.variable - 1) v (inv.kept v on));
      released = released_more t.entries c.order-order.result.now c.above.left l old c.release.new.self.order c.order-order.ensures.order c.above-test.true inv.left c.index-order-left-in-above.is c.release.ensures.from (omega (arith, inv.long)) c.release.ensures.held inv.released;
    }

pub returns-else-level_of-level : goal.returns-else-level_of-level
returns-else-level_of-level c =
    let inv = c.above.invariant in
    record {
      long = inv.long;
      kept = inv.kept;
      released = released_all c.args.trail.now c.order-order.result.now c.above.left c.args.level c.level_of.result c.index-order-left.result c.above.self.order.held c.requires.trail c.order-order.ensures.order c.above-test.true inv.left c.index-order-left.is c.level_of.ensures c.if-level_of-level.false inv.released;
    }
