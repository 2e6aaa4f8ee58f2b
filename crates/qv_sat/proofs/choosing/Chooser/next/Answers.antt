use Rattle.std.proofs.Common.{rules, ◌≡◌, ◌≤◌, ◌<◌, ◌-◌, false, List, Bool, length, set, sym, ◌∙◌, ap, subst, arith}
use Rattle.std.specs.Prelude.{IsSome}
use Rattle.std.proofs.lemmas.List.{length-set}
use Rattle.qv_sat_order.specs.Ranking.{Ranking}
use Rattle.qv_watch.specs.Entries.{value_of}
use Rattle.qv_sat.specs.Choosing.{Covers, held_in}
use Rattle.qv_sat.proofs.Covering.{fewer_held, some_value, Covers-valued}
use Rattle.qv_sat.proofs.choosing.Chooser.next.Goals as goal

pub loop-variable-smaller : goal.loop-variable-smaller
loop-variable-smaller c =
    let old = c.loop-variable.self.order in
    subst (λ (r : Ranking). held_in r.held < held_in old.held) (sym c.in-Some-pop.ensures.taken) (fewer_held old.held c.in-Some-pop.variable c.in-Some-pop.ensures.first.held)

pub loop-variable-preserved : goal.loop-variable-preserved
loop-variable-preserved c =
    let old = c.loop-variable.self.order in
    let l = c.signed-lit.result in
    let same : c.pop.new.self.held ≡ set old.held (l.variable - 1) false = ap (λ (r : Ranking). r.held) c.in-Some-pop.ensures.taken ∙ ap (λ v. set old.held (v - 1) false) (sym c.signed-lit.ensures) in
    let valued : IsSome (value_of c.args.trail.now.entries l) = some_value (value_of c.args.trail.now.entries l) c.is_none.result (search rules) c.if-is_none.false in
    let from : 1 ≤ l.variable = omega (arith, c.in-Some-pop.ensures.first.from, c.signed-lit.ensures) in
    record {
      long = ap (λ (hs : List Bool). length hs) same ∙ length-set old.held (l.variable - 1) false ∙ c.loop-variable.invariant.long;
      covers = subst (λ (hs : List Bool). Covers hs c.args.trail.now.entries) (sym same) (Covers-valued old.held c.args.trail.now.entries l from valued c.loop-variable.invariant.covers);
    }
