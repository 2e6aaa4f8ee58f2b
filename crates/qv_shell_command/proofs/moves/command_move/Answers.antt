use Rattle.std.proofs.Common.{◌≡◌, List, ℕ, length, Ok, Err, ap, subst, sym, arith}
use Rattle.std.specs.Prelude.{Result, Vec}
use Rattle.std.specs.declared.alloc.Global.{Global}
use Rattle.qv_sexpr.proofs.Standing.{stands_lt}
use Rattle.qv_meter.specs.Records.{records_of}
use Rattle.qv_meter.specs.Views.{limits_of}
use Rattle.qv_script_defs.specs.declared.effects.Effect.{Effect as Told}
use Rattle.qv_script_defs.specs.declared.faults.ScriptFault.{ScriptFault}
use Rattle.qv_script_defs.specs.declared.faults.ScriptFault.TheVariants.{At}
use Rattle.qv_script_defs.specs.Faults.{fault_line}
use Rattle.qv_script_defs.specs.Commands.{after}
use Rattle.qv_script_stack.specs.Steps.{Gives}
use Rattle.qv_solve_offer.proofs.Staying.{shared-stays}
use Rattle.qv_shell_command.specs.declared.ending.Ending.TheVariants.{Refused}
use Rattle.qv_shell_command.specs.declared.moves.Course.{Course}
use Rattle.qv_shell_command.specs.Calls.{IsLast, refuses}
use Rattle.qv_shell_command.proofs.Moving.{ok-weaker, nothing-checked, last-moves, step-done, first-place}
use Rattle.qv_shell_command.proofs.moves.command_move.Goals as goal

pub index-requires : goal.index-requires
index-requires c =
    let h = c.requires.expr in
    let first = stands_lt c.args.expr.now.items.items c.args.expr.now.text.items 0 h.0 (length c.args.expr.now.items.items) h.1 in
    omega (arith, first, c.args.expr.now.items.ok.0)

pub effect_move-requires-clause-done : goal.effect_move-requires-clause-done
effect_move-requires-clause-done c =
    let whole : c.step.result ≡ Ok c.in-Ok.effect = cc in
    let s = c.requires.stands.0 in
    let standing = c.requires.stands.1 in
    let e = c.requires.expr.0 in
    let gives = subst (λ (r : Result Told ScriptFault). Gives c.step.new.store c.step.new.self (after s e) r) whole (c.step.ensures.step s e standing.script c.requires.expr.1) in
    let d = step-done c.step.new.store c.step.new.self c.args.expr.now s e c.in-Ok.effect standing.current c.requires.expr.1 gives in
    (s, e, d.0, d.1, d.2)

pub returns-in-Ok-clause-moves : goal.returns-in-Ok-clause-moves
returns-in-Ok-clause-moves c =
    let whole : c.step.result ≡ Ok c.in-Ok.effect = cc in
    ok-weaker c.effect_move.result _ _ c.effect_move.ensures.moves
    (λ m go s e standing is.
    let gives = subst (λ (r : Result Told ScriptFault). Gives c.step.new.store c.step.new.self (after s e) r) whole (c.step.ensures.step s e standing.script is) in
    let d = step-done c.step.new.store c.step.new.self c.args.expr.now s e c.in-Ok.effect standing.current is gives in
    go s e d.0 d.1 d.2 (first-place c.args.expr.now c.index.result.now e is c.index.ensures))

pub returns-in_ok-refusal-in-Err-At-clause-moves : goal.returns-in_ok-refusal-in-Err-At-clause-moves
returns-in_ok-refusal-in-Err-At-clause-moves c = λ s e standing is.
    let store = c.step.new.store in
    let script = c.step.new.self in
    let course : Course = record { store = store; script = script; tally = c.args.course.now.tally; shared = c.args.course.now.shared } in
    let records = records_of c.args.meter.now in
    let place = c.in-Err-At.place in
    let m = c.refused.result in
    let text = ap (λ (v : Vec ℕ Global). v.items) c.refused.ensures.text in
    let kind = c.in-Err-At.kind in
    let whole : c.step.result ≡ Err (At place kind) = cc in
    let gives = subst (λ (r : Result Told ScriptFault). Gives store script (after s e) r) whole (c.step.ensures.step s e standing.script is) in
    let line : m.text.items ≡ fault_line (record { place = place; kind = kind }) = cc (text, c.in_ok-refusal-in-Err-At.ensures, c.kind_text.ensures) in
    last-moves c.args.places (limits_of c.args.limits) s e m course.tally course records records (nothing-checked m course records c.refused.ensures.section) Refused c.refused.ensures.after
    (subst (λ (line : List ℕ). IsLast c.args.places s e line 1) (sym line) (refuses (record { place = place; kind = kind }) gives))

pub effect_move-requires-clause-shared : goal.effect_move-requires-clause-shared
effect_move-requires-clause-shared c = shared-stays c.args.course.now.store c.step.new.store c.args.course.now.shared c.step.ensures.grows c.requires.shared

pub returns-in_ok-refusal-in-Err-At-clause-shared : goal.returns-in_ok-refusal-in-Err-At-clause-shared
returns-in_ok-refusal-in-Err-At-clause-shared c = shared-stays c.args.course.now.store c.step.new.store c.args.course.now.shared c.step.ensures.grows c.requires.shared
