use Rattle.std.proofs.Common.{◌≡◌, Some, sym, ap, subst, ◌∙◌}
use Rattle.std.specs.Prelude.{option_map}
use Rattle.qv_elab_defs.specs.Tokens.{symbol_of}
use Rattle.qv_script_defs.specs.Moves.{Move, declare}
use Rattle.qv_script_defs.specs.Commands.{DeclareConst, step}
use Rattle.qv_script_stack.specs.Steps.{Settles}
use Rattle.qv_script_stack.proofs.Stepping.{two-parts, shaped-as}
use Rattle.qv_script_plain.proofs.simple.declare_const.Goals as goal

pub returns-clause-step : goal.returns-clause-step
returns-clause-step c = λ trees s es h parts.
    let two = two-parts c.args.expr.now c.args.x c.args.sort es parts in
    let name : symbol_of two.0 ≡ Some c.in-Some.name.now = sym (c.symbol_at.ensures two.0 two.3) ∙ ap (option_map (λ n. n.now)) c.in-Some.is in
    let given = ap (λ xs. step DeclareConst c.args.place xs s) two.2 ∙ shaped-as c.args.place (symbol_of two.0) c.in-Some.name.now (λ n. declare c.args.place s n two.1) name in
    subst (λ (m : Move). Settles trees c.declare.new.stack m c.declare.result) (sym given) (c.declare.ensures.step trees s two.1 h two.4)
