use Rattle.std.proofs.Common.{◌≡◌, ℕ, Some, Ok, Err, sym, ap, subst, ◌∙◌}
use Rattle.std.specs.Prelude.{Result, Vec, option_map}
use Rattle.std.specs.declared.alloc.Global.{Global}
use Rattle.std.proofs.lemmas.Result.{err_from_is_err_and}
use Rattle.qv_elab_defs.specs.Faults.{◌>>=◌}
use Rattle.qv_elab_defs.specs.Tokens.{keyword_of}
use Rattle.qv_elab_defs.specs.Scopes.{found}
use Rattle.qv_script_defs.specs.declared.effects.Effect.{Effect as Done}
use Rattle.qv_script_defs.specs.declared.faults.ScriptFault.{ScriptFault}
use Rattle.qv_script_defs.specs.Texts.{infos, info_text}
use Rattle.qv_script_defs.specs.Moves.{Move, Text}
use Rattle.qv_script_defs.specs.Commands.{GetInfo, step}
use Rattle.qv_script_parts.specs.Parted.{TellsText}
use Rattle.qv_script_stack.specs.Steps.{Settles, RunsOut}
use Rattle.qv_script_stack.proofs.Stepping.{one-part, shaped-as}
use Rattle.qv_script_plain.proofs.Plain.{info-faulty}
use Rattle.qv_script_plain.proofs.simple.get_info.Goals as goal

pub returns-in_err-info_text-clause-step : goal.returns-in_err-info_text-clause-step
returns-in_err-info_text-clause-step c = λ trees s es h parts.
    let a = c.args in
    let n = c.in-Some.key.now in
    let one = one-part a.expr.now a.k es parts in
    let key : keyword_of one.0 ≡ Some n = sym (c.keyword_at.ensures one.0 one.2) ∙ ap (option_map (λ x. x.now)) c.in-Some.is in
    let given = ap (λ xs. step GetInfo a.place xs s) one.1 ∙ shaped-as a.place (keyword_of one.0) n (λ m. info_text a.place s m (found m infos) >>= λ text. Ok (s, Text text)) key in
    let told = subst (λ (r : Result (Vec ℕ Global) ScriptFault). TellsText (info_text a.place s n (found n infos)) r) c.in_err-info_text.was (c.info_text.ensures.text trees s h) in
    let runs = subst (λ (r : Result (Vec ℕ Global) ScriptFault). RunsOut (info_text a.place s n (found n infos)) r) c.in_err-info_text.was (c.info_text.ensures.short trees s h) in
    let left = err_from_is_err_and c.from_residual.result c.from_residual.ensures.1 in
    subst (λ (m : Move). Settles trees a.stack.now m c.from_residual.result) (sym given)
    (subst (λ (r : Result Done ScriptFault). Settles trees a.stack.now (info_text a.place s n (found n infos) >>= λ text. Ok (s, Text text)) r) (sym (left.1 ∙ ap Err left.2))
    (info-faulty trees a.stack.now s (info_text a.place s n (found n infos)) c.in_err-info_text.field-0.0 told runs))
