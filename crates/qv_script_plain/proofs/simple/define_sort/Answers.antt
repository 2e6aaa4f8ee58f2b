use Rattle.std.proofs.Common.{◌≡◌, true, Some, sym, ap, subst, ◌∙◌}
use Rattle.std.specs.Prelude.{option_map}
use Rattle.qv_elab_defs.specs.Tokens.{symbol_of}
use Rattle.qv_script_defs.specs.Moves.{Move}
use Rattle.qv_script_defs.specs.Commands.{DefineSort, step}
use Rattle.qv_script_parts.specs.Parted.{is_empty_list}
use Rattle.qv_script_stack.specs.Steps.{Settles}
use Rattle.qv_script_stack.proofs.Stepping.{three-parts}
use Rattle.qv_script_plain.proofs.Plain.{define-sort-as}
use Rattle.qv_script_plain.proofs.simple.define_sort.Goals as goal

pub returns-in-Some-true-clause-step : goal.returns-in-Some-true-clause-step
returns-in-Some-true-clause-step c = λ trees s es h parts.
    let a = c.args in
    let three = three-parts a.expr.now a.x a.parameters a.sort es parts in
    let name : symbol_of three.0 ≡ Some c.in-Some.name.now = sym (c.symbol_at.ensures three.0 three.4) ∙ ap (option_map (λ n. n.now)) c.in-Some.is in
    let empty : is_empty_list three.1 ≡ Some true = sym (c.is_empty_list.ensures three.1 three.5) ∙ c.in-Some-true.is ∙ ap Some c.in-Some-true.field-0-test in
    let given = ap (λ xs. step DefineSort a.place xs s) three.3 ∙ define-sort-as a.place s three.0 three.1 three.2 c.in-Some.name.now name empty in
    subst (λ (m : Move). Settles trees c.name_sort.new.stack m c.name_sort.result) (sym given) (c.name_sort.ensures.step trees s three.2 h three.6)
