use Rattle.std.proofs.Common.{◌-◌, ◌≤◌, ℕ, List, length, get_or, ◌∙◌, ap, arith}
use Rattle.qv_sat_order.proofs.Playing.{tournament_back, within_grown}
use Rattle.qv_sat_order.proofs.orders.Order.room.Goals as goal

pub play-requires : goal.play-requires
play-requires c =
    let i = c.self.inside in
    let t = c.self.invariant in
    record {
      wide = omega (arith, c.deref_mut.ensures.len, c.in_ok-resize.ensures.len, c.deref.ensures.len, c.in_ok-resize-2.ensures.len);
      same = omega (arith, c.deref-2.ensures.len, c.in_ok-resize-3.ensures.len, c.deref.ensures.len, c.in_ok-resize-2.ensures.len);
      few = omega (arith, c.deref.ensures.len, c.in_ok-resize-2.ensures.len);
      within = λ k.
          let same = ap length c.in_ok-reserve.ensures.items in
          let from : (j : ℕ) → get_or c.reserve.new.self.items j 0 ≤ length i.held.items = λ j. let at = ap (λ (xs : List ℕ). get_or xs j 0) c.in_ok-reserve.ensures.items in let w = t.drawn.within j in omega arith in
          let w = within_grown c.reserve.new.self.items c.resize.new.self.items c.args.variables (c.args.variables - c.reserve.new.self.len) (length i.held.items) c.args.variables (omega (arith, same, t.drawn.wide, c.len-old.ensures, i.held.ok)) c.in_ok-resize.ensures.items (omega (arith, c.len-old.ensures, i.held.ok)) from k in
          let at = ap (λ (xs : List ℕ). get_or xs k 0) c.deref_mut.ensures.value in
          omega (arith, c.deref.ensures.len, c.in_ok-resize-2.ensures.len);
    }

pub invariant_of-self-2 : goal.invariant_of-self-2
invariant_of-self-2 c =
    tournament_back c.resize.new.self.len c.play.new.nodes c.resize.new.self.items c.deref.result.now c.resize-2.new.self.items c.deref-2.result.now c.resize-3.new.self.items (c.play.auto.nodes ∙ c.deref_mut.ensures.len) c.deref.ensures.value c.deref-2.ensures.value c.play.ensures.drawn c.play.ensures.played
