use Rattle.std.proofs.Common.{◌≡◌, ◌+◌, ◌-◌, ◌/◌, length, set, ◌∙◌, ap, subst, arith}
use Rattle.std.proofs.lemmas.List.{length-set}
use Rattle.qv_sat_order.specs.Tournament.{ArePlayedBut}
use Rattle.qv_sat_order.proofs.Playing.{played_change, tournament_back}
use Rattle.qv_sat_order.proofs.orders.Order.change.Goals as goal

pub mend-requires-clause-played : goal.mend-requires-clause-played
mend-requires-clause-played c =
    let i = c.self.inside in
    let k = c.args.variable - 1 in
    let held = set i.held.items k c.args.held in
    let t = c.self.invariant in
    let long : length i.nodes.items ≡ c.len.result = omega (arith, t.drawn.wide, length-set i.held.items k c.args.held, ap length c.deref.ensures.value, c.deref.ensures.len, c.len.ensures) in
    let played : ArePlayedBut i.nodes.items held i.activity.items ((c.len.result + k) / 2) = subst (λ n. ArePlayedBut i.nodes.items held i.activity.items ((n + k) / 2)) long (played_change i.nodes.items i.held.items i.activity.items k c.args.held t.played) in
    rw (c.deref_mut.ensures.value, c.deref.ensures.value, c.deref-2.ensures.value) played

pub invariant_of-self : goal.invariant_of-self
invariant_of-self c =
    let i = c.self.inside in
    tournament_back i.nodes.len c.mend.new.nodes i.nodes.items c.deref.result.now (set i.held.items (c.args.variable - 1) c.args.held) c.deref-2.result.now i.activity.items (c.mend.auto.nodes ∙ c.deref_mut.ensures.len) c.deref.ensures.value c.deref-2.ensures.value c.mend.ensures.drawn c.mend.ensures.played
