use Rattle.std.proofs.Common.{Option, refl, sym, subst, ◌∙◌}
use Rattle.std.specs.Prelude.{Result}
use Rattle.qv_elab_defs.specs.Faults.{Fault}
use Rattle.qv_elab_defs.specs.Scopes.{Entry}
use Rattle.qv_elab_defs.specs.Heads.{Head, Macro, head_entry}
use Rattle.qv_elab_scope.specs.Headed.{IsTold, named}
use Rattle.qv_elab_scope.proofs.Heading.{head-defined, head-other}
use Rattle.qv_elab_scope.proofs.resolving.named_head.Goals as goal

pub returns-then-is_defined : goal.returns-then-is_defined
returns-then-is_defined c = λ trees defs ns at s e k.
    let h = named c.args.head_place c.args.place c.args.name.now ns in
    let is = head-defined trees c.args.scope.now defs s c.args.name.now (sym c.if-is_defined.true ∙ c.is_defined.ensures) in
    subst (λ (o : Option Entry). IsTold defs at (head_entry h o) c.bare.result) (sym is.2)
    (c.bare.ensures ns h (Macro is.0 is.1) defs at e refl (λ none. (c.args.name.now, is.0, is.1, k none, is.2, refl)))

pub returns : goal.returns
returns c = λ trees defs ns at s e k.
    let h = named c.args.head_place c.args.place c.args.name.now ns in
    subst (λ (r : Result Head Fault). IsTold defs at r c.operator_head.result)
    (sym (head-other trees c.args.scope.now defs s h (sym c.if-is_defined.false ∙ c.is_defined.ensures)))
    (c.operator_head.ensures ns defs at e)
