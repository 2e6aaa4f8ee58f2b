use Rattle.std.proofs.Common.{◌≡◌, Err, sym, ap, subst, ◌∙◌}
use Rattle.std.specs.Prelude.{Result}
use Rattle.std.proofs.lemmas.Result.{err_from_is_err_and}
use Rattle.qv_store.proofs.Replacement.{grows-more}
use Rattle.qv_script_defs.specs.declared.effects.Effect.{Effect as Done}
use Rattle.qv_script_defs.specs.declared.faults.ScriptFault.{ScriptFault}
use Rattle.qv_script_defs.specs.Labels.{labelled}
use Rattle.qv_script_defs.specs.Commands.{behind_labels}
use Rattle.qv_script_parts.specs.Meant.{meant}
use Rattle.qv_script_stack.specs.Held.{Held}
use Rattle.qv_script_stack.specs.Steps.{Gives}
use Rattle.qv_script_stack.specs.Changes.{IsLonger}
use Rattle.qv_script_terms.specs.Labelling.{GivesState}
use Rattle.qv_script.proofs.Labelling.{label-refused, behind-is, on-err}
use Rattle.qv_script.proofs.step.run_behind.Goals as goal

pub returns-in_err-label_all-clause-step : goal.returns-in_err-label_all-clause-step
returns-in_err-label_all-clause-step c = λ s es ls h parts is.
    let a = c.args in
    let told = subst (λ (r : Result (Unit {0}) ScriptFault). GivesState c.label_all.new.store c.label_all.new.stack (labelled a.place ls s) r) c.in_err-label_all.was (c.label_all.ensures.labelled s ls h is) in
    let left = err_from_is_err_and c.from_residual.result c.from_residual.ensures.1 in
    subst (λ (r : Result Done ScriptFault). Gives c.label_all.new.store c.label_all.new.stack (behind_labels (meant a.command) a.place es s ls) r) (sym (left.1 ∙ ap Err left.2))
    (label-refused c.label_all.new.store c.label_all.new.stack (meant a.command) a.place es s ls c.in_err-label_all.field-0.0 told)

pub run_terms-requires-clause-held : goal.run_terms-requires-clause-held
run_terms-requires-clause-held c =
    let s = c.requires.held in
    let l = c.requires.labels in
    let told = subst (λ (r : Result (Unit {0}) ScriptFault). GivesState c.label_all.new.store c.label_all.new.stack (labelled c.args.place l.0 s.0) r) c.in_ok-label_all.was (c.label_all.ensures.labelled s.0 l.0 s.1 l.1) in
    (told.0, told.2)

pub returns-clause-step : goal.returns-clause-step
returns-clause-step c = λ s es ls h parts is.
    let a = c.args in
    let told = subst (λ (r : Result (Unit {0}) ScriptFault). GivesState c.label_all.new.store c.label_all.new.stack (labelled a.place ls s) r) c.in_ok-label_all.was (c.label_all.ensures.labelled s ls h is) in
    behind-is c.run_terms.new.store c.run_terms.new.stack (meant a.command) a.place es s ls told.0 c.run_terms.result told.1 (c.run_terms.ensures.step told.0 es told.2 parts)

pub returns-clause-err : goal.returns-clause-err
returns-clause-err c =
    on-err c.run_terms.result (c.run_terms.new.stack ≡ c.label_all.new.stack) (IsLonger c.args.stack.now c.run_terms.new.stack)
    (λ e. subst (λ (k : Held). IsLonger c.args.stack.now k) (sym e) c.label_all.ensures.longer) c.run_terms.ensures.err

pub returns-clause-grows : goal.returns-clause-grows
returns-clause-grows c = grows-more c.args.store.now c.label_all.new.store c.run_terms.new.store c.label_all.ensures.grows c.run_terms.ensures.grows
