use Rattle.std.proofs.Common.{◌≡◌, ◌≤◌, ◌∙◌, ℕ, List, Ok, Err, inl, inr, refl, sym, ap, subst, arith}
use Rattle.std.specs.Prelude.{◌+◌, Result, IfOk, OnOk, Vec}
use Rattle.std.specs.declared.alloc.Global.{Global}
use Rattle.qv_meter.specs.Records.{Limits, records_of}
use Rattle.qv_meter.specs.Views.{limits_of}
use Rattle.qv_solve.specs.declared.fault.SolveFault.{SolveFault}
use Rattle.qv_solve.specs.declared.fault.SolveFault.TheVariants.{PrefixLimit, NoMemory}
use Rattle.qv_solve.specs.Solutions.{HasRecord}
use Rattle.qv_script_defs.specs.Settings.{limit_of}
use Rattle.qv_script_transcript.specs.Lawful.{prefix_length}
use Rattle.qv_shell_answer.specs.declared.checking.Checked.{Checked}
use Rattle.qv_shell_answer.specs.Checks.{IsCheckedFor, formulas_in}
use Rattle.qv_shell_command.specs.declared.ending.Ending.TheVariants.{Refused}
use Rattle.qv_shell_command.specs.declared.moves.Course.{Course}
use Rattle.qv_shell_command.specs.Calls.{IsLast}
use Rattle.qv_shell_command.proofs.Moving.{ok-weaker, err-so, can-check, last-moves, exceeds-last, answered-moves, begins-none, begins-one}
use Rattle.qv_shell_command.proofs.moves.check_move.Goals as goal

pub answer-requires-clause-check : goal.answer-requires-clause-check
answer-requires-clause-check c = let r = c.requires.check in can-check c.args.course.now.store c.args.course.now.script r.0 r.1 r.2 r.3 r.4

pub answer-requires-clause-limits : goal.answer-requires-clause-limits
answer-requires-clause-limits c = c.limits_at-own.ensures.limits

pub answered-requires-clause-unrefused : goal.answered-requires-clause-unrefused
answered-requires-clause-unrefused c =
    let old = c.args.course.now in
    let whole : c.answer.result ≡ Ok c.in-Ok.checked = cc in
    (subst (λ (r : Result Checked SolveFault). IfOk r (IsCheckedFor (old.tally.checks + 1) (limits_of c.limits_at-own.result) old.script.constants (formulas_in old.store old.script) c.answer.new.meter)) whole c.answer.ensures.checked).unrefused

pub returns-in-Ok-clause-moves : goal.returns-in-Ok-clause-moves
returns-in-Ok-clause-moves c =
    let old = c.args.course.now in
    let mid : Course = record { store = c.answer.new.store; script = old.script; tally = old.tally; shared = c.answer.new.shared } in
    let limits = limits_of c.args.limits in
    let checked = c.in-Ok.checked in
    let meter = c.args.meter.now in
    let meter' = c.answer.new.meter in
    let whole : c.answer.result ≡ Ok checked = cc in
    let own = limits_of c.limits_at-own.result in
    let is = subst (λ (r : Result Checked SolveFault). IfOk r (IsCheckedFor (old.tally.checks + 1) own old.script.constants (formulas_in old.store old.script) meter')) whole c.answer.ensures.checked in
    let has = subst (λ (r : Result Checked SolveFault). OnOk r (HasRecord own meter meter')) whole c.answer.ensures.record in
    let short = subst (λ (r : Result Checked SolveFault). OnOk r (prefix_length (formulas_in old.store old.script) ≤ c.args.places)) whole c.answer.ensures.within in
    ok-weaker c.answered.result _ _ c.answered.ensures
    (λ m kept s e now formulas h at.
    let same = c.limits_at-own.ensures.own old.store now h.stepped.script in
    answered-moves c.args.places limits s e now formulas m old mid c.answered.new.course checked meter meter' (omega (arith, c.ranges.places)) h short
    (subst (λ (ls : Limits). IsCheckedFor (old.tally.checks + 1) ls old.script.constants (formulas_in old.store old.script) meter' checked) same is)
    (subst (λ (ls : Limits). HasRecord ls meter meter') same has) c.answer.ensures.grows refl refl kept)

pub returns-in-Ok-clause-begun : goal.returns-in-Ok-clause-begun
returns-in-Ok-clause-begun c =
    let limits = limits_of c.args.limits in
    let meter = c.args.meter.now in
    let meter' = c.answer.new.meter in
    let whole : c.answer.result ≡ Ok c.in-Ok.checked = cc in
    let k = c.requires.check in
    let same = c.limits_at-own.ensures.own c.args.course.now.store k.2 k.4.stepped.script in
    let has = subst (λ (r : Result Checked SolveFault). OnOk r (HasRecord (limits_of c.limits_at-own.result) meter meter')) whole c.answer.ensures.record in
    err-so c.answered.result _ (begins-one limits (limit_of k.2) meter meter' (subst (λ (ls : Limits). HasRecord ls meter meter') same has))

pub returns-in_ok-refusal-in-Err-PrefixLimit-clause-moves : goal.returns-in_ok-refusal-in-Err-PrefixLimit-clause-moves
returns-in_ok-refusal-in-Err-PrefixLimit-clause-moves c = λ s e now formulas h at.
    let old = c.args.course.now in
    let course : Course = record { store = c.answer.new.store; script = old.script; tally = old.tally; shared = c.answer.new.shared } in
    let m = c.refused.result in
    let whole : c.answer.result ≡ Err PrefixLimit = cc in
    let over = c.answer.ensures.over whole in
    let text = ap (λ (v : Vec ℕ Global). v.items) c.refused.ensures.text in
    last-moves c.args.places (limits_of c.args.limits) s e m old.tally course (records_of c.args.meter.now) (records_of c.answer.new.meter)
    (record { section = c.refused.ensures.section; same = ap records_of over.1; stays = refl }) Refused c.refused.ensures.after
    (subst (λ (line : List ℕ). IsLast c.args.places s e line 1) (sym (text ∙ c.in_ok-refusal-in-Err-PrefixLimit.ensures))
    (exceeds-last c.args.places old.store old.script s e now formulas c.args.place h at over.0))

pub returns-in_err-refusal-in-Err-PrefixLimit-clause-begun : goal.returns-in_err-refusal-in-Err-PrefixLimit-clause-begun
returns-in_err-refusal-in-Err-PrefixLimit-clause-begun c =
    let whole : c.answer.result ≡ Err PrefixLimit = cc in
    err-so c.from_residual.result _ (begins-none (limits_of c.args.limits) c.args.meter.now c.answer.new.meter (c.answer.ensures.over whole).1)

pub returns-in-Err-NoMemory-clause-begun : goal.returns-in-Err-NoMemory-clause-begun
returns-in-Err-NoMemory-clause-begun c =
    let whole : c.answer.result ≡ Err NoMemory = cc in
    elim (c.answer.ensures.memory whole) [
      | inl same ↦ begins-none (limits_of c.args.limits) c.args.meter.now c.answer.new.meter same
      | inr has ↦
          let k = c.requires.check in
          let same = c.limits_at-own.ensures.own c.args.course.now.store k.2 k.4.stepped.script in
          begins-one (limits_of c.args.limits) (limit_of k.2) c.args.meter.now c.answer.new.meter (subst (λ (ls : Limits). HasRecord ls c.args.meter.now c.answer.new.meter) same has)
    ]
