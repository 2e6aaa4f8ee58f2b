use Rattle.std.proofs.Common.{rules, ◌≡◌, ◌+◌, ◌-◌, ◌/◌, ◌≤◌, ℕ, false, true, List, length, set, sym, ◌∙◌, ap, subst, arith}
use Rattle.std.proofs.lemmas.List.{get_or_default, length-set}
use Rattle.qv_sat_order.specs.Ranking.{Ranking, activity_of, is_held}
use Rattle.qv_sat_order.specs.Tournament.{IsRaising, StandsUpTo}
use Rattle.qv_sat_order.proofs.Firsts.{meets_bump, played_bump, played_raise}
use Rattle.qv_sat_order.proofs.Playing.{drawn_activity, tournament_back}
use Rattle.qv_sat_order.proofs.orders.Order.bump.Goals as goal

pub raise-requires-clause-raising : goal.raise-requires-clause-raising
raise-requires-clause-raising c =
    let i = c.self.inside in
    let v = c.args.variable in
    let k = v - 1 in
    let x = c.saturating_add.result in
    let t = c.self.invariant in
    let wide : length i.held.items ≡ length c.args.self.now.held = ap (λ (r : Ranking). length r.held) c.self.view_is in
    let own : activity_of i.activity.items v ≡ c.index.result.now = get_or_default i.activity.items k 0 c.index.result.now (let d = t.drawn in omega (arith, c.requires.to, wide)) ∙ sym c.index.ensures in
    let most : c.index.result.now ≤ 18446744073709551615 = search rules in
    let more : activity_of i.activity.items v ≤ x = omega (arith, own, most, c.saturating_add.ensures) in
    let leaf : c.len.result + k ≡ length i.nodes.items + k = omega (arith, t.drawn.wide, c.len.ensures) in
    let on : StandsUpTo i.nodes.items (length i.nodes.items + k) v c.top-top.result = subst (λ n. StandsUpTo i.nodes.items n v c.top-top.result) leaf (subst (λ (xs : List ℕ). StandsUpTo xs (c.len.result + k) v c.top-top.result) c.deref.ensures.value c.top-top.ensures) in
    let low : v ≤ length i.held.items = omega (arith, c.requires.to, wide) in
    let held : is_held i.held.items v ≡ true = get_or_default i.held.items k false c.index-2.result.now (omega (arith, c.requires.to, wide)) ∙ sym c.index-2.ensures ∙ c.if-index.true in
    let raising : IsRaising i.nodes.items i.held.items (set i.activity.items k x) v c.top-top.result = record {
      played = played_bump i.nodes.items i.held.items i.activity.items t v x c.requires.from low more c.top-top.result on;
      meets = meets_bump i.nodes.items i.held.items i.activity.items t v x c.requires.from low more c.top-top.result on held;
    } in
    rw (c.deref_mut.ensures.value, c.deref-then-index.ensures.value, c.deref-then-index-2.ensures.value) raising

pub invariant_of-self : goal.invariant_of-self
invariant_of-self c =
    let i = c.self.inside in
    tournament_back i.nodes.len c.raise.new.nodes i.nodes.items c.deref-then-index.result.now i.held.items c.deref-then-index-2.result.now _ (c.raise.auto.nodes ∙ c.deref_mut.ensures.len) c.deref-then-index.ensures.value c.deref-then-index-2.ensures.value c.raise.ensures.drawn c.raise.ensures.played

pub invariant_of-self-else-index : goal.invariant_of-self-else-index
invariant_of-self-else-index c =
    let i = c.self.inside in
    let v = c.args.variable in
    let k = v - 1 in
    let x = c.saturating_add.result in
    let off : is_held i.held.items v ≡ false = search rules in
    record {
      drawn = drawn_activity i.nodes.items i.held.items i.activity.items (set i.activity.items k x) c.self.invariant.drawn (length-set i.activity.items k x);
      played = played_raise i.nodes.items i.held.items i.activity.items c.self.invariant v x c.requires.from off;
    }
