use Rattle.std.proofs.Common.{◌∙◌, ap, map, subst, sym}
use Rattle.qv_meter.specs.Records.{IsMetering}
use Rattle.qv_meter.specs.Charging.{MayChargeInstance}
use Rattle.qv_meter.specs.Views.{lane_of, metering_of, record_of, unit_in}
use Rattle.qv_meter.proofs.Keeping.{instance-step, on-err}
use Rattle.qv_meter.proofs.meters.Meter.instance.Goals.{in-Some, in-None}
use Rattle.qv_meter.proofs.meters.Meter.instance.Goals as goal

pub invariant_of-self : goal.invariant_of-self
invariant_of-self c = elim c.match-self.branch [
  | in-Some w ↦ rw w.self-inside-is (
      let e = w.charge_instance.ensures in
      let viewed = sym (ap (λ o. metering_of c.self.inside.older.items o c.self.inside.lane) w.in-Some.is) ∙ c.self.view_is in
      instance-step w.charge_instance.result (map record_of c.self.inside.older.items) (record_of w.in-Some.newest) (record_of w.charge_instance.new.newest) (lane_of c.self.inside.lane)
      (unit_in c.args._store.now c.args._unit.now) (subst (λ m. MayChargeInstance m (unit_in c.args._store.now c.args._unit.now)) (sym viewed) c.requires)
      e.spent (on-err record_of w.charge_instance.result w.charge_instance.new.newest w.in-Some.newest e.err) e.ok
      (subst (λ o. IsMetering (metering_of c.self.inside.older.items o c.self.inside.lane)) w.in-Some.is c.self.invariant))
  | in-None w ↦ rw w.self-inside-is c.self.invariant
]
