use Rattle.std.proofs.Common.{map, subst}
use Rattle.qv_meter.specs.Records.{IsMetering}
use Rattle.qv_meter.specs.Views.{lane_of, metering_of, record_of}
use Rattle.qv_meter.proofs.Keeping.{settled-keeps}
use Rattle.qv_meter.proofs.meters.Meter.settle.Goals.{in-Some+in-Some-1, in-Some+in-None-1, in_default}
use Rattle.qv_meter.proofs.meters.Meter.settle.Goals as goal

pub invariant_of-self : goal.invariant_of-self
invariant_of-self c = elim c.match-self.branch [
  | in-Some+in-Some-1 w ↦ rw w.self-inside-is (
      settled-keeps (map record_of c.self.inside.older.items) (record_of w.in-Some.record) (lane_of c.self.inside.lane)
      (subst (λ o. IsMetering (metering_of c.self.inside.older.items o c.self.inside.lane)) w.in-Some.is c.self.invariant))
  | in-Some+in-None-1 w ↦ rw w.self-inside-is (
      settled-keeps (map record_of c.self.inside.older.items) (record_of w.in-Some.record) (lane_of c.self.inside.lane)
      (subst (λ o. IsMetering (metering_of c.self.inside.older.items o c.self.inside.lane)) w.in-Some.is c.self.invariant))
  | in_default w ↦ rw w.self-inside-is c.self.invariant
]
