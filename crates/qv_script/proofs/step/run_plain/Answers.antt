use Rattle.std.proofs.Common.{rules, ◌≡◌, ℕ, true, refl, ap, ◌∙◌}
use Rattle.qv_script_parts.specs.Meant.{meant, is_definition}
use Rattle.qv_script.specs.Beginnings.{has_terms}
use Rattle.qv_script.proofs.Calling.{steps-form}
use Rattle.qv_script.proofs.Outsets.{definition-form}
use Rattle.qv_script.proofs.step.run_plain.Goals as goal

pub returns-in-DefineConst-clause-step : goal.returns-in-DefineConst-clause-step
returns-in-DefineConst-clause-step c =
    let a = c.args in
    let is : is_definition a.command ≡ true = search rules in
    steps-form a.place a.expr.now a.command a.command a.args.now a.stack.now a.stack.now c.fault_at.result refl c.fault_at.ensures
    (λ s es n. definition-form a.place s a.command es is (ap (λ (k : ℕ). has_terms (meant a.command) k) n ∙ c.requires.plain))
