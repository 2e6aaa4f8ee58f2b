use Rattle.std.proofs.Common.{◌≡◌, ◌∙◌, List, ℕ, None, option_map, inl, length, Ok, Err, ap, subst, sym, arith}
use Rattle.std.specs.Prelude.{Result}
use Rattle.qv_sexpr.proofs.Standing.{stands_lt}
use Rattle.qv_script_defs.specs.declared.effects.Effect.{Effect as Told}
use Rattle.qv_script_defs.specs.declared.faults.ScriptFault.{ScriptFault}
use Rattle.qv_script_defs.specs.declared.faults.ScriptFault.TheVariants.{At}
use Rattle.qv_script_defs.specs.Faults.{Fault, refusal, fault_line}
use Rattle.qv_script_defs.specs.Commands.{after}
use Rattle.qv_script_stack.specs.Steps.{Gives}
use Rattle.qv_cert.specs.CertReader.{to_give}
use Rattle.qv_check_script.specs.declared.turns.Turn.{Turn}
use Rattle.qv_check_script.specs.declared.ending.Ending.TheVariants.{Faulty}
use Rattle.qv_sexpr.specs.Script.{command as stands}
use Rattle.qv_check_script.specs.Reading.{ShowsEnding}
use Rattle.qv_check_script.specs.Turns.{Ends}
use Rattle.qv_check_script.proofs.Checked.{step-done, first-place}
use Rattle.qv_check_script.proofs.Closing.{writes}
use Rattle.qv_check_script.proofs.Leading.{ok-weaker, end-turns, ends-by, comes-next, command-fails}
use Rattle.qv_check_script.proofs.commands.command_turn.Goals as goal

pub index-requires : goal.index-requires
index-requires g c =
    let h = c.requires.expr in
    let first = stands_lt c.args.expr.now.items.items c.args.expr.now.text.items 0 h.0 (length c.args.expr.now.items.items) h.1 in
    omega (arith, first, c.args.expr.now.items.ok.0)

pub effect_turn-requires-clause-stepped : goal.effect_turn-requires-clause-stepped
effect_turn-requires-clause-stepped g c =
    let whole : c.step.result ≡ Ok c.in-Ok.effect = cc in
    let s = c.requires.stands.0 in
    let standing = c.requires.stands.1 in
    let e = c.requires.expr.0 in
    let gives = subst (λ (r : Result Told ScriptFault). Gives c.step.new.store c.step.new.self (after s e) r) whole (c.step.ensures.step s e standing.script c.requires.expr.1) in
    let d = step-done c.args.course.now (record { store = c.step.new.store; script = c.step.new.self; checks = c.args.course.now.checks }) c.args.expr.now s e c.in-Ok.effect standing c.requires.expr.1 gives in
    (s, e, d.0, d.1, d.2, d.3)

pub returns-in-Ok-clause-turns : goal.returns-in-Ok-clause-turns
returns-in-Ok-clause-turns g c =
    let whole : c.step.result ≡ Ok c.in-Ok.effect = cc in
    ok-weaker c.effect_turn.result _ _ c.effect_turn.ensures.turns
    (λ t go s e rest standing is.
    let gives = subst (λ (r : Result Told ScriptFault). Gives c.step.new.store c.step.new.self (after s e) r) whole (c.step.ensures.step s e standing.script is) in
    let d = step-done c.args.course.now (record { store = c.step.new.store; script = c.step.new.self; checks = c.args.course.now.checks }) c.args.expr.now s e c.in-Ok.effect standing is gives in
    go s e d.0 d.1 rest d.2 d.3 (first-place c.args.expr.now c.index.result.now e is c.index.ensures))

pub returns-in-Ok-clause-limit : goal.returns-in-Ok-clause-limit
returns-in-Ok-clause-limit g c = λ met s e rest standing is.
    let whole : c.step.result ≡ Ok c.in-Ok.effect = cc in
    let gives = subst (λ (r : Result Told ScriptFault). Gives c.step.new.store c.step.new.self (after s e) r) whole (c.step.ensures.step s e standing.script is) in
    let d = step-done c.args.course.now (record { store = c.step.new.store; script = c.step.new.self; checks = c.args.course.now.checks }) c.args.expr.now s e c.in-Ok.effect standing is gives in
    c.effect_turn.ensures.limit met s e d.0 d.1 rest d.2 d.3

pub returns-in_ok-refusal-in-Err-At-clause-turns : goal.returns-in_ok-refusal-in-Err-At-clause-turns
returns-in_ok-refusal-in-Err-At-clause-turns g c s e rest standing is =
    let reader = c.args.reader.now in
    let place = c.in-Err-At.place in
    let kind = c.in-Err-At.kind in
    let fault : Fault = record { place = place; kind = kind } in
    let whole : c.step.result ≡ Err (At place kind) = cc in
    let gives = subst (λ (r : Result Told ScriptFault). Gives c.step.new.store c.step.new.self (after s e) r) whole (c.step.ensures.step s e standing.script is) in
    let line = c.in_ok-refusal-in-Err-At.ensures ∙ ap (refusal place) c.kind_text.ensures in
    let ends = subst (λ (t : Turn). Ends (writes (fault_line fault) 1) t) (sym c.faulty.ensures) (ap (λ (l : List ℕ). writes l 1) (sym line)) in
    let old = option_map (stands e) rest in
    let shows : ShowsEnding c.args.places s old None Faulty = (e, comes-next e rest, inl (fault, gives)) in
    end-turns c.args.places c.faulty.result _ s old rest None _ _ (ends-by (ShowsEnding c.args.places s old None) Faulty (fault_line fault) c.faulty.result ends shows)
    (command-fails c.args.places reader.version c.args.course.now.checks reader.given s e rest (to_give reader.rest (g.C.Source.left c.args.cert.now)) fault c.faulty.result gives ends)
