use Rattle.std.proofs.Common.{◌≤◌, ◌-◌, length, sym, ◌∙◌, arith}
use Rattle.std.proofs.lemmas.List.{get_or_past}
use Rattle.qv_watch.proofs.Tabling.{looked_up}
use Rattle.qv_watch.proofs.values.look_up.Goals as goal

pub returns-in-None : goal.returns-in-None
returns-in-None c =
    let vars = c.args.vars.now in
    let v = c.args.lit.variable in
    let past : length vars ≤ v - 1 = grind (arith, c.in-None.ensures.lookup, c.place_of.ensures.place) in
    sym (looked_up vars c.args.order.now v c.requires (omega (arith, c.place_of.ensures.place)) ∙ get_or_past vars (v - 1) _ past)
