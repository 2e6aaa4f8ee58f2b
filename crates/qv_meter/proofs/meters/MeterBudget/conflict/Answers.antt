use Rattle.std.proofs.Common.{◌≡◌, ◌∙◌, Some, map, sym, ap, subst}
use Rattle.std.specs.Prelude.{IsErr}
use Rattle.qv_cnf.specs.LratLine.{lines_of}
use Rattle.qv_meter.specs.Records.{IsMetering}
use Rattle.qv_meter.specs.Charging.{MayCharge, SameButConflicts, conflict_count, conflict_limit}
use Rattle.qv_meter.specs.Views.{lane_of, metering_of, record_of}
use Rattle.qv_meter.proofs.Keeping.{conflict-step, on-err}
use Rattle.qv_meter.proofs.meters.MeterBudget.conflict.Goals.{in-Some, in-None}
use Rattle.qv_meter.proofs.meters.MeterBudget.conflict.Goals as goal

pub invariant_of-self : goal.invariant_of-self
invariant_of-self c = elim c.match-self.branch [
  | in-Some w ↦ rw w.self-inside-is (
      let viewed = sym (ap (λ o. metering_of c.self.inside.older.items o c.self.inside.lane) w.in-Some.is) ∙ c.self.view_is in
      let step = conflict-step w.charge_conflict.result (map record_of c.self.inside.older.items) (record_of w.in-Some.newest) (record_of w.charge_conflict.new.newest) (lane_of c.self.inside.lane)
      c.args._base.now.live (lines_of c.args._steps.now) c.args._id c.args._lits.now c.args._hints.now
      w.charge_conflict.ensures.spent (on-err record_of w.charge_conflict.result w.charge_conflict.new.newest w.in-Some.newest w.charge_conflict.ensures.err) w.charge_conflict.ensures.ok
      (subst (λ o. IsMetering (metering_of c.self.inside.older.items o c.self.inside.lane)) w.in-Some.is c.self.invariant)
      (subst (λ m. MayCharge m c.args._base.now.live (lines_of c.args._steps.now)) (sym viewed) c.requires.may) c.requires.derivation in
      step.kept)
  | in-None w ↦ rw w.self-inside-is c.self.invariant
]

pub returns-clause-spent : goal.returns-clause-spent
returns-clause-spent c = elim c.match-self.branch [
  | in-Some w ↦ rw w.result-is (
      let viewed = sym (ap (λ o. metering_of c.self.inside.older.items o c.self.inside.lane) w.in-Some.is) ∙ c.self.view_is in
      let step = conflict-step w.charge_conflict.result (map record_of c.self.inside.older.items) (record_of w.in-Some.newest) (record_of w.charge_conflict.new.newest) (lane_of c.self.inside.lane)
      c.args._base.now.live (lines_of c.args._steps.now) c.args._id c.args._lits.now c.args._hints.now
      w.charge_conflict.ensures.spent (on-err record_of w.charge_conflict.result w.charge_conflict.new.newest w.in-Some.newest w.charge_conflict.ensures.err) w.charge_conflict.ensures.ok
      (subst (λ o. IsMetering (metering_of c.self.inside.older.items o c.self.inside.lane)) w.in-Some.is c.self.invariant)
      (subst (λ m. MayCharge m c.args._base.now.live (lines_of c.args._steps.now)) (sym viewed) c.requires.may) c.requires.derivation in
      subst (λ m. (IsErr w.charge_conflict.result → conflict_count m ≡ conflict_limit m) × (conflict_count m ≡ conflict_limit m → IsErr w.charge_conflict.result)) viewed step.spent)
  | in-None w ↦ absurd (subst (λ m. MayCharge m c.args._base.now.live (lines_of c.args._steps.now)) (sym (sym (ap (λ o. metering_of c.self.inside.older.items o c.self.inside.lane) w.in-None.is) ∙ c.self.view_is)) c.requires.may)
]

pub returns-clause-may : goal.returns-clause-may
returns-clause-may c = elim c.match-self.branch [
  | in-Some w ↦ rw (w.result-is, w.self-inside-is) (
      let viewed = sym (ap (λ o. metering_of c.self.inside.older.items o c.self.inside.lane) w.in-Some.is) ∙ c.self.view_is in
      let step = conflict-step w.charge_conflict.result (map record_of c.self.inside.older.items) (record_of w.in-Some.newest) (record_of w.charge_conflict.new.newest) (lane_of c.self.inside.lane)
      c.args._base.now.live (lines_of c.args._steps.now) c.args._id c.args._lits.now c.args._hints.now
      w.charge_conflict.ensures.spent (on-err record_of w.charge_conflict.result w.charge_conflict.new.newest w.in-Some.newest w.charge_conflict.ensures.err) w.charge_conflict.ensures.ok
      (subst (λ o. IsMetering (metering_of c.self.inside.older.items o c.self.inside.lane)) w.in-Some.is c.self.invariant)
      (subst (λ m. MayCharge m c.args._base.now.live (lines_of c.args._steps.now)) (sym viewed) c.requires.may) c.requires.derivation in
      step.may)
  | in-None w ↦ absurd (subst (λ m. MayCharge m c.args._base.now.live (lines_of c.args._steps.now)) (sym (sym (ap (λ o. metering_of c.self.inside.older.items o c.self.inside.lane) w.in-None.is) ∙ c.self.view_is)) c.requires.may)
]

pub returns-clause-same : goal.returns-clause-same
returns-clause-same c = elim c.match-self.branch [
  | in-Some w ↦ rw w.self-inside-is (
      let viewed = sym (ap (λ o. metering_of c.self.inside.older.items o c.self.inside.lane) w.in-Some.is) ∙ c.self.view_is in
      let step = conflict-step w.charge_conflict.result (map record_of c.self.inside.older.items) (record_of w.in-Some.newest) (record_of w.charge_conflict.new.newest) (lane_of c.self.inside.lane)
      c.args._base.now.live (lines_of c.args._steps.now) c.args._id c.args._lits.now c.args._hints.now
      w.charge_conflict.ensures.spent (on-err record_of w.charge_conflict.result w.charge_conflict.new.newest w.in-Some.newest w.charge_conflict.ensures.err) w.charge_conflict.ensures.ok
      (subst (λ o. IsMetering (metering_of c.self.inside.older.items o c.self.inside.lane)) w.in-Some.is c.self.invariant)
      (subst (λ m. MayCharge m c.args._base.now.live (lines_of c.args._steps.now)) (sym viewed) c.requires.may) c.requires.derivation in
      subst (λ m. SameButConflicts m (metering_of c.self.inside.older.items (Some w.charge_conflict.new.newest) c.self.inside.lane)) viewed step.same)
  | in-None w ↦ absurd (subst (λ m. MayCharge m c.args._base.now.live (lines_of c.args._steps.now)) (sym (sym (ap (λ o. metering_of c.self.inside.older.items o c.self.inside.lane) w.in-None.is) ∙ c.self.view_is)) c.requires.may)
]
