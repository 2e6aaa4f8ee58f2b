use Rattle.std.proofs.Common.{◌≡◌, ℕ, List, Bool, sym, ◌∙◌, ap, subst}
use Rattle.qv_sat_order.specs.Ranking.{HoldsNone, IsFirst, Ranking}
use Rattle.qv_sat_order.specs.Tournament.{entrant_at}
use Rattle.qv_sat_order.proofs.Firsts.{none_held, winner_first}
use Rattle.qv_sat_order.proofs.orders.Order.pop.Goals as goal

pub returns-then-variable-eq0-clause-none : goal.returns-then-variable-eq0-clause-none
returns-then-variable-eq0-clause-none c =
    let i = c.self.inside in
    let at : c.first-variable.result ≡ entrant_at i.nodes.items i.held.items 1 = c.first-variable.ensures ∙ ap (λ (xs : List ℕ). entrant_at xs c.deref-2.result.now 1) c.deref.ensures.value ∙ ap (λ (hs : List Bool). entrant_at i.nodes.items hs 1) c.deref-2.ensures.value in
    subst HoldsNone c.self.view_is (none_held i.nodes.items i.held.items i.activity.items c.self.invariant (sym at ∙ c.if-variable-eq0.true))

pub returns-clause-first : goal.returns-clause-first
returns-clause-first c =
    let i = c.self.inside in
    let at : c.first-variable.result ≡ entrant_at i.nodes.items i.held.items 1 = c.first-variable.ensures ∙ ap (λ (xs : List ℕ). entrant_at xs c.deref-2.result.now 1) c.deref.ensures.value ∙ ap (λ (hs : List Bool). entrant_at i.nodes.items hs 1) c.deref-2.ensures.value in
    subst (λ (r : Ranking). IsFirst r c.first-variable.result) c.self.view_is (winner_first i.nodes.items i.held.items i.activity.items c.self.invariant c.first-variable.result at c.if-variable-eq0.false i.increment)
