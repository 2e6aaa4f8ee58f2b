use Rattle.qv_sat.specs.Reducing.{IsIdle}
use Rattle.qv_sat.proofs.Picking.{IsPicked}
use Rattle.qv_sat.proofs.reduce.idle.Given as goal

abbrev pub invariant-chosen : goal.invariant-chosen
invariant-chosen l = IsPicked (IsIdle l.base.live l.trail) l.chosen l.last l.id-index l.ids.items
