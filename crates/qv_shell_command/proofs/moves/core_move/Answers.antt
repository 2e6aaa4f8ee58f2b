use Rattle.std.proofs.Common.{◌∙◌, List, ℕ, refl, ap, subst}
use Rattle.std.specs.Prelude.{Vec}
use Rattle.std.specs.declared.alloc.Global.{Global}
use Rattle.qv_meter.specs.Records.{Limits, records_of}
use Rattle.qv_meter.specs.Views.{limits_of}
use Rattle.qv_script_defs.specs.Settings.{limit_of}
use Rattle.qv_script_texts.specs.Printing.{core_text}
use Rattle.qv_solve_cores.specs.Cores.{StartsSome}
use Rattle.qv_solve_offer.proofs.Staying.{shared-stays}
use Rattle.qv_shell_answer.specs.Checks.{IsCoreFor, formulas_in, texts_of}
use Rattle.qv_shell_command.specs.declared.moves.Course.{Course}
use Rattle.qv_shell_command.proofs.Moving.{err-so, can-core, core-moves, begins-core, begins-some}
use Rattle.qv_shell_command.proofs.moves.core_move.Goals as goal

pub core-requires-clause-core : goal.core-requires-clause-core
core-requires-clause-core c = let r = c.requires.core in can-core c.args.course.now.store c.args.course.now.script c.args.among r.0 r.1 r.2 r.3 r.4 r.5

pub core-requires-clause-limits : goal.core-requires-clause-limits
core-requires-clause-limits c = c.limits_at-own.ensures.limits

pub returns-in_err-kept-clause-begun : goal.returns-in_err-kept-clause-begun
returns-in_err-kept-clause-begun c =
    let k = c.requires.core in
    let same = c.limits_at-own.ensures.own c.args.course.now.store k.2 k.5.stepped.script in
    err-so c.from_residual.result _
    (begins-some (limits_of c.args.limits) (limit_of k.2) c.args.meter.now c.core.new.meter
    (subst (λ (ls : Limits). StartsSome ls c.args.meter.now c.core.new.meter) same c.in_err-kept.ensures.memory))

pub returns-in_err-kept_text-clause-begun : goal.returns-in_err-kept_text-clause-begun
returns-in_err-kept_text-clause-begun c =
    let old = c.args.course.now in
    let k = c.requires.core in
    let same = c.limits_at-own.ensures.own old.store k.2 k.5.stepped.script in
    let is = subst (λ (ls : Limits). IsCoreFor ls (formulas_in old.store old.script) (texts_of c.args.among old.script) (records_of c.args.meter.now) (records_of c.core.new.meter) c.in_ok-kept.kept.items) same c.in_ok-kept.ensures.core in
    err-so c.from_residual-in_err-kept_text.result _
    (begins-core (limits_of c.args.limits) (limit_of k.2) (formulas_in old.store old.script) (texts_of c.args.among old.script) (records_of c.args.meter.now) (records_of c.core.new.meter) c.in_ok-kept.kept.items is)

pub returns-clause-moves : goal.returns-clause-moves
returns-clause-moves c = λ places s e now formulas texts h.
    let old = c.args.course.now in
    let mid : Course = record { store = c.core.new.store; script = old.script; tally = old.tally; shared = old.shared } in
    let kept = c.in_ok-kept.kept.items in
    let same = c.limits_at-own.ensures.own old.store now h.stepped.script in
    let is = subst (λ (ls : Limits). IsCoreFor ls (formulas_in old.store old.script) (texts_of c.args.among old.script) (records_of c.args.meter.now) (records_of c.core.new.meter) kept) same c.in_ok-kept.ensures.core in
    let text = ap (λ (v : Vec ℕ Global). v.items) c.goes_on.ensures.text ∙ c.in_ok-kept_text.ensures
    ∙ ap (λ (ks : List ℕ). core_text ks (texts_of c.args.among old.script)) c.deref.ensures.value in
    core-moves places (limits_of c.args.limits) c.args.among s e now formulas texts c.goes_on.result old mid kept (records_of c.args.meter.now) (records_of c.core.new.meter) h is c.goes_on.ensures.after c.goes_on.ensures.section text
    c.core.ensures.grows refl refl

pub returns-clause-shared : goal.returns-clause-shared
returns-clause-shared c = shared-stays c.args.course.now.store c.core.new.store c.args.course.now.shared c.core.ensures.grows c.requires.shared
