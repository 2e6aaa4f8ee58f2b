use Rattle.std.proofs.Common.{◌∙◌, ap, map, subst, sym}
use Rattle.qv_store.specs.Walks.{named}
use Rattle.qv_meter.specs.Records.{IsMetering}
use Rattle.qv_meter.specs.Charging.{ExceedsVariables}
use Rattle.qv_meter.specs.Views.{lane_of, metering_of, record_of}
use Rattle.qv_meter.proofs.Keeping.{over-keeps}
use Rattle.qv_meter.proofs.meters.Meter.variables.Goals.{in-Some, in_default}
use Rattle.qv_meter.proofs.meters.Meter.variables.Goals as goal

pub invariant_of-self : goal.invariant_of-self
invariant_of-self c = elim c.match-self.branch [
  | in-Some w ↦ rw w.self-inside-is (
      let viewed = sym (ap (λ o. metering_of c.self.inside.older.items o c.self.inside.lane) w.in-Some.is) ∙ c.self.view_is in
      over-keeps (map record_of c.self.inside.older.items) (record_of w.in-Some.record) (lane_of c.self.inside.lane)
      c.requires.0 (named c.args._store.now c.args._list.now) (subst (λ m. ExceedsVariables m c.requires.0 (named c.args._store.now c.args._list.now)) (sym viewed) c.requires.1)
      (subst (λ o. IsMetering (metering_of c.self.inside.older.items o c.self.inside.lane)) w.in-Some.is c.self.invariant))
  | in_default w ↦ rw w.self-inside-is c.self.invariant
]
