use Rattle.std.proofs.Common.{ℕ, Option, List, length, take, sym, ap, subst, ◌∙◌, arith}
use Rattle.std.specs.Prelude.{option_map}
use Rattle.qv_sexpr.proofs.Standing.{stands_lt}
use Rattle.qv_elab_items.proofs.Slices.{read-item}
use Rattle.qv_script_parts.specs.declared.command.Command.{Command as Told}
use Rattle.qv_script_parts.specs.Meant.{meant}
use Rattle.qv_script_parts.specs.Parted.{inside_of}
use Rattle.qv_script_defs.specs.Commands.{commanded}
use Rattle.qv_script_parts.specs.Parted.{AreParts}
use Rattle.qv_script_defs.specs.declared.effects.Effect.{Effect as Done}
use Rattle.qv_script_defs.specs.declared.faults.ScriptKind.TheVariants.{Command as NoCommand}
use Rattle.qv_script_stack.proofs.Stepping.{refused-runs}
use Rattle.qv_script.specs.Beginnings.{expression_beginning}
use Rattle.qv_script_parts.proofs.Attributes.{stands-begins}
use Rattle.qv_script.proofs.Following.{no-name, no-command, that-command, that-outset, parts-behind, still-held}
use Rattle.qv_script.proofs.step.step_front.Goals as goal
use Rattle.qv_store.proofs.Evaluation.{none-of}

pub index-requires : goal.index-requires
index-requires c =
    let h = c.requires.expr in
    let first = stands_lt c.args.expr.now.items.items c.args.expr.now.text.items 0 h.0 (length c.args.expr.now.items.items) h.1 in
    omega (arith, first, c.args.expr.now.items.ok.0)

pub returns-in_default-clause-step : goal.returns-in_default-clause-step
returns-in_default-clause-step c = λ s e h k.
    let a = c.args in
    let b = stands-begins a.expr.now 0 e (length a.expr.now.items.items) k in
    let there = read-item a.expr.now.items.items 0 b.0 c.index.result.now b.1 c.index.ensures in
    let parts = subst (λ (ats : List ℕ). AreParts a.expr.now ats (take 6 (inside_of e))) (none-of a.front.now (omega (arith, c.in_default.ensures.cases))) (c.requires.front e k) in
    no-name a.expr.now c.index.result.now there a.store.now a.stack.now s e c.fault_at.result k parts c.fault_at.ensures

pub run_command-requires-clause-parts : goal.run_command-requires-clause-parts
run_command-requires-clause-parts c =
    let a = c.args in
    let e = c.requires.expr.0 in
    parts-behind a.expr.now c.in-Some.first.now c.in-Some.args.now (take 6 (inside_of e))
    (subst (λ (ats : List ℕ). AreParts a.expr.now ats (take 6 (inside_of e))) c.in-Some.ensures.cases.0 (c.requires.front e c.requires.expr.1))

pub returns-in-Some-command_at-clause-step : goal.returns-in-Some-command_at-clause-step
returns-in-Some-command_at-clause-step c = λ s e h k.
    let a = c.args in
    let b = stands-begins a.expr.now 0 e (length a.expr.now.items.items) k in
    let there = read-item a.expr.now.items.items 0 b.0 c.index.result.now b.1 c.index.ensures in
    let parts = subst (λ (ats : List ℕ). AreParts a.expr.now ats (take 6 (inside_of e))) c.in-Some.ensures.cases.0 (c.requires.front e k) in
    that-command a.expr.now c.index.result.now there c.run_command.new.store c.run_command.new.stack s e c.in-Some.first.now c.in-Some.args.now (meant c.in-Some-command_at.command) c.run_command.result k parts
    (λ g p. sym (ap (λ (o : Option Told). option_map meant o) c.in-Some-command_at.is) ∙ c.command_at.ensures g p)
    (λ es q. c.run_command.ensures.step s es h q)

pub returns-in-Some-command_at-clause-held : goal.returns-in-Some-command_at-clause-held
returns-in-Some-command_at-clause-held c =
    let a = c.args in
    let s = c.requires.held in
    let e = c.requires.expr.0 in
    let rest = parts-behind a.expr.now c.in-Some.first.now c.in-Some.args.now (take 6 (inside_of e))
    (subst (λ (ats : List ℕ). AreParts a.expr.now ats (take 6 (inside_of e))) c.in-Some.ensures.cases.0 (c.requires.front e c.requires.expr.1)) in
    still-held a.store.now c.run_command.new.store a.stack.now c.run_command.new.stack s.0 (commanded (meant c.in-Some-command_at.command) c.index.result.now.place rest.0 s.0) c.run_command.result
    c.run_command.ensures.grows s.1 (c.run_command.ensures.step s.0 rest.0 s.1 rest.1) c.run_command.ensures.err

pub returns-in-None-clause-step : goal.returns-in-None-clause-step
returns-in-None-clause-step c = λ s e h k.
    let a = c.args in
    let b = stands-begins a.expr.now 0 e (length a.expr.now.items.items) k in
    let there = read-item a.expr.now.items.items 0 b.0 c.index.result.now b.1 c.index.ensures in
    let parts = subst (λ (ats : List ℕ). AreParts a.expr.now ats (take 6 (inside_of e))) c.in-Some.ensures.cases.0 (c.requires.front e k) in
    no-command a.expr.now c.index.result.now there a.store.now a.stack.now s e c.in-Some.first.now c.in-Some.args.now c.fault_at-in-None.result k parts
    (λ g p. sym (ap (λ (o : Option Told). option_map meant o) c.in-None.is) ∙ c.command_at.ensures g p)
    c.fault_at-in-None.ensures

pub returns-in_default-clause-short : goal.returns-in_default-clause-short
returns-in_default-clause-short c = λ s e h k. refused-runs Done (expression_beginning s e) c.index.result.now.place NoCommand c.fault_at.result c.fault_at.ensures

pub returns-in-Some-command_at-clause-short : goal.returns-in-Some-command_at-clause-short
returns-in-Some-command_at-clause-short c = λ s e h k.
    let a = c.args in
    let b = stands-begins a.expr.now 0 e (length a.expr.now.items.items) k in
    let there = read-item a.expr.now.items.items 0 b.0 c.index.result.now b.1 c.index.ensures in
    let parts = subst (λ (ats : List ℕ). AreParts a.expr.now ats (take 6 (inside_of e))) c.in-Some.ensures.cases.0 (c.requires.front e k) in
    that-outset a.expr.now c.index.result.now there a.store.now a.stack.now s e c.in-Some.first.now c.in-Some.args.now (meant c.in-Some-command_at.command) c.run_command.result k parts
    (λ g p. sym (ap (λ (o : Option Told). option_map meant o) c.in-Some-command_at.is) ∙ c.command_at.ensures g p)
    (λ es q. c.run_command.ensures.short s e es h k q)

pub returns-in-None-clause-short : goal.returns-in-None-clause-short
returns-in-None-clause-short c = λ s e h k. refused-runs Done (expression_beginning s e) c.index.result.now.place NoCommand c.fault_at-in-None.result c.fault_at-in-None.ensures
