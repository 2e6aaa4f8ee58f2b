use Rattle.std.proofs.Common.{◌≡◌, ℕ, None, List, [], ◌∷◌, Err, sym, ap, subst, ◌∙◌}
use Rattle.std.specs.Prelude.{Result, Vec}
use Rattle.std.specs.declared.alloc.Global.{Global}
use Rattle.std.proofs.lemmas.Result.{err_from_is_err_and}
use Rattle.qv_sexpr.specs.Script.{Tree as Written}
use Rattle.qv_sexpr.proofs.Copies.{begun}
use Rattle.qv_script_defs.specs.declared.effects.Effect.{Effect as Done}
use Rattle.qv_script_defs.specs.declared.faults.ScriptFault.{ScriptFault}
use Rattle.qv_script_defs.specs.Moves.{assumptions}
use Rattle.qv_script_defs.specs.Commands.{CheckSatAssuming, step}
use Rattle.qv_script_stack.specs.Held.{Held}
use Rattle.qv_script_parts.specs.Parted.{inside_of, is_empty_list}
use Rattle.qv_script_terms.specs.Asking.{TellsTrees}
use Rattle.qv_script_terms.specs.Beginnings.{command_beginning}
use Rattle.qv_script_parts.specs.Parted.{AreParts}
use Rattle.qv_script_stack.specs.Steps.{Gives}
use Rattle.qv_script_terms.proofs.Assumed.{assuming-faulty, assuming-all, assuming-begins}
use Rattle.qv_script_stack.proofs.Asserting.{script-grows}
use Rattle.qv_script_stack.proofs.Stepping.{one-part, runs-out}
use Rattle.qv_script_terms.proofs.assuming.check_sat_assuming.Goals as goal

pub formulas-requires-clause-parts : goal.formulas-requires-clause-parts
formulas-requires-clause-parts c =
    let b = begun c.args.expr.now c.args.ts c.requires.expr c.requires.ts in
    (inside_of b.0, subst (λ (ats : List ℕ). AreParts c.args.expr.now ats (inside_of b.0)) (sym c.deref.ensures.value) (c.in_ok-parts.ensures b.0 (b.1, b.2)))

pub texts_of-requires-clause-parts : goal.texts_of-requires-clause-parts
texts_of-requires-clause-parts c =
    let b = begun c.args.expr.now c.args.ts c.requires.expr c.requires.ts in
    (inside_of b.0, subst (λ (ats : List ℕ). AreParts c.args.expr.now ats (inside_of b.0)) (sym c.deref-2.ensures.value) (c.in_ok-parts.ensures b.0 (b.1, b.2)))

pub returns-in_err-ids-clause-step : goal.returns-in_err-ids-clause-step
returns-in_err-ids-clause-step c = λ s es h parts.
    let a = c.args in
    let trees = c.formulas.new.store in
    let one = one-part a.expr.now a.ts es parts in
    let there = sym (c.is_empty_list.ensures one.0 one.2) ∙ c.in-Some.is in
    let listed : is_empty_list one.0 ≡ None → ⊥ = λ e. absurd (cc) in
    let inner = subst (λ (ats : List ℕ). AreParts a.expr.now ats (inside_of one.0)) (sym c.deref.ensures.value) (c.in_ok-parts.ensures one.0 one.2) in
    let told = subst (λ (r : Result (Vec ℕ Global) ScriptFault). TellsTrees trees (assumptions s (inside_of one.0)) r) c.in_err-ids.was (c.formulas.ensures.tells s (inside_of one.0) h inner) in
    let left = err_from_is_err_and c.from_residual-in_err-ids.result c.from_residual-in_err-ids.ensures.1 in
    subst (λ (xs : List Written). Gives trees a.stack.now (step CheckSatAssuming a.place xs s) c.from_residual-in_err-ids.result) (sym one.1)
    (subst (λ (r : Result Done ScriptFault). Gives trees a.stack.now (step CheckSatAssuming a.place (one.0 ∷ []) s) r) (sym (left.1 ∙ ap Err left.2))
    (assuming-faulty a.place s trees a.stack.now one.0 c.in_err-ids.field-0.0 listed told))

pub returns-clause-step : goal.returns-clause-step
returns-clause-step c = λ s es h parts.
    let a = c.args in
    let trees = c.formulas.new.store in
    let ids = c.in_ok-ids.ids.items in
    let one = one-part a.expr.now a.ts es parts in
    let there = sym (c.is_empty_list.ensures one.0 one.2) ∙ c.in-Some.is in
    let listed : is_empty_list one.0 ≡ None → ⊥ = λ e. absurd (cc) in
    let inner = subst (λ (ats : List ℕ). AreParts a.expr.now ats (inside_of one.0)) (sym c.deref.ensures.value) (c.in_ok-parts.ensures one.0 one.2) in
    let told = subst (λ (r : Result (Vec ℕ Global) ScriptFault). TellsTrees trees (assumptions s (inside_of one.0)) r) c.in_ok-ids.was (c.formulas.ensures.tells s (inside_of one.0) h inner) in
    let kept = script-grows a.store.now trees c.formulas.ensures.grows a.stack.now s h in
    let behind = subst (λ (ats : List ℕ). AreParts a.expr.now ats (inside_of one.0)) (sym c.deref-2.ensures.value) (c.in_ok-parts.ensures one.0 one.2) in
    let written = c.in_ok-terms.ensures (inside_of one.0) behind in
    assuming-all a.place s trees a.stack.now _ one.0 es ids c.in_ok-terms.terms told.0 one.1 (c.assume.ensures, written) listed told.1 told.2 kept

pub returns-clause-forgets : goal.returns-clause-forgets
returns-clause-forgets c = ap (λ (k : Held). k.last) c.assume.ensures

pub returns-in_err-parts-clause-short : goal.returns-in_err-parts-clause-short
returns-in_err-parts-clause-short c = λ s es h parts.
    let a = c.args in
    let one = one-part a.expr.now a.ts es parts in
    let there = sym (c.is_empty_list.ensures one.0 one.2) ∙ c.in-Some.is in
    let listed : is_empty_list one.0 ≡ None → ⊥ = λ e. absurd (cc) in
    runs-out (command_beginning CheckSatAssuming a.place es s) tt c.from_residual.result
    (ap (λ (xs : List Written). command_beginning CheckSatAssuming a.place xs s) one.1 ∙ assuming-begins a.place s one.0 listed)

pub returns-in_err-ids-clause-short : goal.returns-in_err-ids-clause-short
returns-in_err-ids-clause-short c = λ s es h parts.
    let a = c.args in
    let one = one-part a.expr.now a.ts es parts in
    let there = sym (c.is_empty_list.ensures one.0 one.2) ∙ c.in-Some.is in
    let listed : is_empty_list one.0 ≡ None → ⊥ = λ e. absurd (cc) in
    runs-out (command_beginning CheckSatAssuming a.place es s) tt c.from_residual-in_err-ids.result
    (ap (λ (xs : List Written). command_beginning CheckSatAssuming a.place xs s) one.1 ∙ assuming-begins a.place s one.0 listed)

pub returns-in_err-terms-clause-short : goal.returns-in_err-terms-clause-short
returns-in_err-terms-clause-short c = λ s es h parts.
    let a = c.args in
    let one = one-part a.expr.now a.ts es parts in
    let there = sym (c.is_empty_list.ensures one.0 one.2) ∙ c.in-Some.is in
    let listed : is_empty_list one.0 ≡ None → ⊥ = λ e. absurd (cc) in
    runs-out (command_beginning CheckSatAssuming a.place es s) tt c.from_residual-in_err-terms.result
    (ap (λ (xs : List Written). command_beginning CheckSatAssuming a.place xs s) one.1 ∙ assuming-begins a.place s one.0 listed)
