use Rattle.std.proofs.Common.{◌≡◌, true, Some, sym, ap, subst, ◌∙◌}
use Rattle.std.specs.Prelude.{option_map}
use Rattle.qv_elab_defs.specs.Tokens.{symbol_of}
use Rattle.qv_script_defs.specs.Moves.{Move}
use Rattle.qv_script_defs.specs.Commands.{DeclareFun, step}
use Rattle.qv_script_parts.specs.Parted.{is_empty_list}
use Rattle.qv_script_stack.specs.Steps.{Settles}
use Rattle.qv_script_stack.proofs.Stepping.{three-parts}
use Rattle.qv_script_plain.proofs.Plain.{declare-fun-as}
use Rattle.qv_script_plain.proofs.simple.declare_fun.Goals as goal

pub returns-in-Some-true-clause-step : goal.returns-in-Some-true-clause-step
returns-in-Some-true-clause-step c = λ trees s es h parts.
    let a = c.args in
    let three = three-parts a.expr.now a.x a.sorts a.sort es parts in
    let name : symbol_of three.0 ≡ Some c.in-Some.name.now = sym (c.symbol_at.ensures three.0 three.4) ∙ ap (option_map (λ n. n.now)) c.in-Some.is in
    let empty : is_empty_list three.1 ≡ Some true = sym (c.is_empty_list.ensures three.1 three.5) ∙ c.in-Some-true.is ∙ ap Some c.in-Some-true.field-0-test in
    let given = ap (λ xs. step DeclareFun a.place xs s) three.3 ∙ declare-fun-as a.place s three.0 three.1 three.2 c.in-Some.name.now name empty in
    subst (λ (m : Move). Settles trees c.declare.new.stack m c.declare.result) (sym given) (c.declare.ensures.step trees s three.2 h three.6)
