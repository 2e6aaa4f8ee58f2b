use Rattle.std.proofs.Common.{◌≡◌, true, false, Some, List, [], refl, sym, ap, subst, ◌∙◌}
use Rattle.std.specs.Prelude.{option_map}
use Rattle.qv_sexpr.specs.Script.{Tree as Written}
use Rattle.qv_elab_defs.specs.Faults.{◌>>=◌}
use Rattle.qv_elab_defs.specs.Tokens.{symbol_of}
use Rattle.qv_script_defs.specs.declared.effects.Effect.{Effect as Done}
use Rattle.qv_script_defs.specs.declared.faults.ScriptKind.TheVariants.{NameInUse}
use Rattle.qv_script_defs.specs.Faults.{shaped}
use Rattle.qv_script_defs.specs.State.{is_taken}
use Rattle.qv_script_defs.specs.Moves.{Move, fresh, define}
use Rattle.qv_script_defs.specs.Commands.{DefineConst, step}
use Rattle.qv_script_stack.specs.Steps.{Gives, RunsOut}
use Rattle.qv_script_terms.proofs.Definitions.{define-taken, define-as}
use Rattle.qv_script_stack.proofs.Holding.{taken-held}
use Rattle.qv_script_stack.proofs.Stepping.{three-parts, shaped-as, gives-fault, refused-runs, runs-behind}
use Rattle.qv_script_terms.specs.Beginnings.{body_beginning, command_beginning}
use Rattle.qv_script_terms.proofs.Formulas.{is-fresh}
use Rattle.qv_script_terms.proofs.defining.define_const.Goals as goal

pub returns-then-is_taken-clause-step : goal.returns-then-is_taken-clause-step
returns-then-is_taken-clause-step c = λ s es h parts.
    let a = c.args in
    let n = c.in-Some.name.now in
    let three = three-parts a.expr.now a.f a.sort a.t es parts in
    let name : symbol_of three.0 ≡ Some n = sym (c.symbol_at.ensures three.0 three.4) ∙ ap (option_map (λ x. x.now)) c.in-Some.is in
    let taken : is_taken s n ≡ true = sym (taken-held a.store.now _ s n h) ∙ sym c.is_taken.ensures ∙ c.if-is_taken.true in
    gives-fault a.store.now a.stack.now (step DefineConst a.place es s) a.place NameInUse c.fault_at-then-is_taken.result c.fault_at-then-is_taken.ensures
    (ap (λ (xs : List Written). step DefineConst a.place xs s) three.3
    ∙ shaped-as a.place (symbol_of three.0) n (λ x. define a.place s x [] three.1 three.2) name
    ∙ define-taken a.place s n [] three.1 three.2 taken)

pub returns-clause-step : goal.returns-clause-step
returns-clause-step c = λ s es h parts.
    let a = c.args in
    let n = c.in-Some.name.now in
    let three = three-parts a.expr.now a.f a.sort a.t es parts in
    let name : symbol_of three.0 ≡ Some n = sym (c.symbol_at.ensures three.0 three.4) ∙ ap (option_map (λ x. x.now)) c.in-Some.is in
    let free : is_taken s n ≡ false = sym (taken-held a.store.now _ s n h) ∙ sym c.is_taken.ensures ∙ c.if-is_taken.false in
    let given =
    ap (λ (xs : List Written). step DefineConst a.place xs s) three.3
    ∙ shaped-as a.place (symbol_of three.0) n (λ x. define a.place s x [] three.1 three.2) name
    ∙ define-as a.place s n [] three.1 three.2 [] free refl in
    subst (λ (m : Move). Gives c.define.new.store c.define.new.stack m c.define.result) (sym given) (c.define.ensures.step s three.1 three.2 h three.5 three.6)

pub returns-clause-lasts : goal.returns-clause-lasts
returns-clause-lasts c = c.define.ensures.lasts

pub returns-then-is_taken-clause-short : goal.returns-then-is_taken-clause-short
returns-then-is_taken-clause-short c = λ s es h parts. refused-runs Done (command_beginning DefineConst c.args.place es s) c.args.place NameInUse c.fault_at-then-is_taken.result c.fault_at-then-is_taken.ensures

pub returns-clause-short : goal.returns-clause-short
returns-clause-short c = λ s es h parts.
    let a = c.args in
    let n = c.in-Some.name.now in
    let three = three-parts a.expr.now a.f a.sort a.t es parts in
    let name : symbol_of three.0 ≡ Some n = sym (c.symbol_at.ensures three.0 three.4) ∙ ap (option_map (λ x. x.now)) c.in-Some.is in
    let free : is_taken s n ≡ false = sym (taken-held a.store.now _ s n h) ∙ sym c.is_taken.ensures ∙ c.if-is_taken.false in
    subst (λ (xs : List Written). RunsOut (command_beginning DefineConst a.place xs s) c.define.result) (sym three.3)
    (runs-behind (shaped a.place (symbol_of three.0)) n (λ x. fresh a.place s x >>= λ _. body_beginning s three.1 three.2) c.define.result (ap (shaped a.place) name)
    (runs-behind (fresh a.place s n) tt (λ _. body_beginning s three.1 three.2) c.define.result (is-fresh a.place s n free)
    (c.define.ensures.short s three.1 three.2 h three.5 three.6 refl)))
