use Rattle.std.proofs.Common.{◌≡◌, Bool, true, false, not, ◌&&◌, Some, refl, sym, ap, subst, ◌∙◌, rules}
use Rattle.std.specs.Prelude.{option_map}
use Rattle.qv_elab_defs.specs.Tokens.{symbol_of}
use Rattle.qv_script_defs.specs.Moves.{Quiet, set_logic}
use Rattle.qv_script_defs.specs.Commands.{SetLogic, step}
use Rattle.qv_script_stack.specs.Held.{Held, IsScriptIn}
use Rattle.qv_script_defs.specs.Logics.{is_logic}
use Rattle.qv_script_stack.proofs.Holding.{held-logic}
use Rattle.qv_script_stack.proofs.Stepping.{one-part, shaped-as}
use Rattle.qv_script_plain.proofs.Plain.{set-logic-done}
use Rattle.qv_script_plain.proofs.simple.set_logic.Goals as goal

tested : (a b d : Bool) → a ≡ false → b ≡ false → d ≡ true → (not a && not b && d) ≡ true
tested true b d e f g = absurd (cc)
tested false true d e f g = absurd (cc)
tested false false d e f g = g

pub returns-clause-step : goal.returns-clause-step
returns-clause-step c = λ trees s es h parts.
    let one = one-part c.args.expr.now c.args.l es parts in
    let name : symbol_of one.0 ≡ Some c.in-Some.name.now = sym (c.symbol_at.ensures one.0 one.2) ∙ ap (option_map (λ n. n.now)) c.in-Some.is in
    let logic : c.is_logic.result ≡ true = search rules in
    let test : (not s.logic && not s.begun && is_logic c.in-Some.name.now) ≡ true = tested s.logic s.begun (is_logic c.in-Some.name.now) (sym h.logic ∙ sym c.has_logic.ensures ∙ c.if-has_logic.false) (sym h.begun ∙ sym c.has_begun.ensures ∙ c.if-has_begun.false) (sym c.is_logic.ensures ∙ logic) in (
      record s { logic = true },
      Quiet,
      ap (λ xs. step SetLogic c.args.place xs s) one.1 ∙ shaped-as c.args.place (symbol_of one.0) c.in-Some.name.now (λ n. set_logic c.args.place s n) name ∙ set-logic-done c.args.place s c.in-Some.name.now test,
      subst (λ (k : Held). IsScriptIn trees k (record s { logic = true })) (sym c.set_logic.ensures) (held-logic trees c.args.stack.now s h),
      refl,
    )
