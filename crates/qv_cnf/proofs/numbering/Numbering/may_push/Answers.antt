use Rattle.std.proofs.Common.{arith, ◌≡◌, ◌+◌, ◌∷◌, ◌++◌, [], List, ℕ, length, ap}
use Rattle.std.proofs.lemmas.Bool.Decides.{nat_tests}
use Rattle.qv_cnf.specs.Runs.{IsSpot}
use Rattle.qv_cnf.proofs.RunLaws.{length-ids_of, rises-ids_of, spot-behind_all}
use Rattle.qv_cnf.proofs.numbering.Numbering.may_push.Goals as goal

pub returns-clause-above : goal.returns-clause-above
returns-clause-above c =
    let last = c.self.inside.last in
    let ids = c.args.self.now in
    let size : last.at + last.count ≡ length ids =
    omega (arith, length-ids_of 0 0 c.self.inside.before.items last c.self.invariant.runs, ap (λ (l : List ℕ). length l) c.self.view_is) in
    let spot : IsSpot ids c.args.id c.spot_among-spot.result = rw (c.deref.ensures.value, c.self.view_is) at c.spot_among-spot.ensures in
    let both = spot-behind_all ids c.args.id (last.at + last.count) c.spot_among-spot.result spot size in
    ((λ yes. both.0 (grind (arith, nat_tests))), (λ h. let e = both.1 h in grind (arith, nat_tests)))

pub returns-clause-rises : goal.returns-clause-rises
returns-clause-rises c =
    rw (← c.self.view_is) (rises-ids_of 0 0 (c.self.inside.before.items ++ c.self.inside.last ∷ []) c.self.invariant.runs)

pub returns-clause-few : goal.returns-clause-few
returns-clause-few c =
    omega (arith, length-ids_of 0 0 c.self.inside.before.items c.self.inside.last c.self.invariant.runs, ap (λ (l : List ℕ). length l) c.self.view_is, c.self.invariant.few)
