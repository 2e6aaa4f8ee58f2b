use Rattle.std.proofs.Common.{◌∙◌}
use Rattle.qv_sat_order.proofs.Playing.{tournament_back}
use Rattle.qv_sat_order.proofs.orders.Order.decay.Goals as goal

pub invariant_of-self-2 : goal.invariant_of-self-2
invariant_of-self-2 c =
    let i = c.self.inside in
    tournament_back i.nodes.len c.play.new.nodes i.nodes.items c.deref.result.now i.held.items c.deref-2.result.now _ (c.play.auto.nodes ∙ c.deref_mut-2.ensures.len) c.deref.ensures.value c.deref-2.ensures.value c.play.ensures.drawn c.play.ensures.played
