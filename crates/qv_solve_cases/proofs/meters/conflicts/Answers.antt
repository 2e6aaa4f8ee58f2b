use Rattle.std.proofs.Common.{[], List, sym, subst}
use Rattle.qv_cnf.specs.Listing.{Numbered}
use Rattle.qv_meter.specs.Charging.{MayCharge}
use Rattle.qv_meter.specs.Views.{limits_of}
use Rattle.qv_solve_cases.proofs.Charging.{may-charge}
use Rattle.qv_solve_cases.proofs.meters.conflicts.Goals as goal

pub charge_conflicts-requires-clause-may : goal.charge_conflicts-requires-clause-may
charge_conflicts-requires-clause-may c =
    subst (λ (base : List Numbered). MayCharge c.begin.new.meter base []) (sym c.in_ok-base.ensures)
    (may-charge (limits_of c.args.limits) c.args.meter.now c.begin.new.meter c.in_ok-begin.ensures)
