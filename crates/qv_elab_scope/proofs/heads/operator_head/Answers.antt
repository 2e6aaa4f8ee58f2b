use Rattle.std.proofs.Common.{◌≡◌, Option, Ok, Err, refl, sym, ap, subst, ◌∙◌}
use Rattle.std.specs.Prelude.{Result}
use Rattle.qv_words.specs.declared.op.Op.{Op}
use Rattle.qv_sorts.specs.declared.operators.NameFault.{NameFault}
use Rattle.qv_sorts.specs.declared.operators.NameFault.TheVariants.{Unknown, Indices}
use Rattle.qv_elab_defs.specs.Heads.{head_operator}
use Rattle.qv_elab_scope.specs.Headed.{IsTold, named, op_of}
use Rattle.qv_elab_scope.proofs.NamedHeads.{some-operator}
use Rattle.qv_elab_scope.proofs.heads.operator_head.Goals as goal

ok-known : (r : Result Op NameFault) (o : Op) → r ≡ Ok o → r ≡ Err Unknown → ⊥
ok-known r o e f = cc

indices-known : (r : Result Op NameFault) (f : NameFault) → r ≡ Err f → f ≡ Indices → r ≡ Err Unknown → ⊥
indices-known r f e g h = cc

pub returns-in-Ok : goal.returns-in-Ok
returns-in-Ok c = λ ns defs at e.
    let h = named c.args.head_place c.args.place c.args.name.now ns in
    let some = some-operator c.args.name.now c.op_with.result c.op_with.ensures.unknown (ok-known c.op_with.result c.in-Ok.op c.in-Ok.is) in
    subst (λ (o : Option Op). IsTold defs at (head_operator h o) c.known_head.result) (sym some.1)
    (c.known_head.ensures h some.0 defs at e refl (λ small. sym (ap op_of c.in-Ok.is) ∙ c.op_with.ensures.found ns some.0 e small some.1))

pub returns-in-Err-Unknown : goal.returns-in-Err-Unknown
returns-in-Err-Unknown c = λ ns defs at e.
    let h = named c.args.head_place c.args.place c.args.name.now ns in
    let none = c.op_with.ensures.unknown.0 (c.in-Err-Unknown.is ∙ ap Err c.in-Err-Unknown.field-0-is) in
    subst (λ (o : Option Op). IsTold defs at (head_operator h o) c.other_head.result) (sym none) (c.other_head.ensures ns defs at e)

pub returns-in-Err-Indices : goal.returns-in-Err-Indices
returns-in-Err-Indices c = λ ns defs at e.
    let h = named c.args.head_place c.args.place c.args.name.now ns in
    let some = some-operator c.args.name.now c.op_with.result c.op_with.ensures.unknown (indices-known c.op_with.result c.in-Err-Indices.field-0 c.in-Err-Indices.is c.in-Err-Indices.field-0-is) in
    subst (λ (o : Option Op). IsTold defs at (head_operator h o) c.known_head-in-Err-Indices.result) (sym some.1)
    (c.known_head-in-Err-Indices.ensures h some.0 defs at e refl (λ small. sym (ap op_of c.in-Err-Indices.is) ∙ c.op_with.ensures.found ns some.0 e small some.1))
