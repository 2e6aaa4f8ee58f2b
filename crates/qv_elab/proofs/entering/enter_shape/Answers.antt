use Rattle.std.proofs.Common.{inl, inr, refl, sym, subst}
use Rattle.qv_elab_defs.specs.declared.faults.ElabKind.TheVariants.{NotSupported}
use Rattle.qv_elab_items.specs.declared.shapes.Shape.{Shape}
use Rattle.qv_elab_defs.specs.Shapes.{Qualified, Unsupported}
use Rattle.qv_elab_items.specs.Listed.{meant}
use Rattle.qv_elab_defs.specs.Beginnings.{Begins, list_beginning}
use Rattle.qv_elab_frames.specs.Loop.{source, state_of, IsInList}
use Rattle.qv_elab_frames.proofs.Inside.{refused}
use Rattle.qv_elab.proofs.entering.enter_shape.Goals as goal

pub returns-in-Qualified-clause-next : goal.returns-in-Qualified-clause-next
returns-in-Qualified-clause-next c = λ defs end given s h.
    let w = source c.args.expr.now end defs in
    elim c.in-Qualified.is [
      | inl e ↦ refused w c.args.store.now (state_of c.args.elaborator.now) c.args.at c.args.close c.args.place Qualified given (subst (λ (sh : Shape). IsInList w c.args.store.now (state_of c.args.elaborator.now) c.args.at c.args.close c.args.place (meant sh) given) e h) NotSupported refl
      | inr e ↦ refused w c.args.store.now (state_of c.args.elaborator.now) c.args.at c.args.close c.args.place Unsupported given (subst (λ (sh : Shape). IsInList w c.args.store.now (state_of c.args.elaborator.now) c.args.at c.args.close c.args.place (meant sh) given) e h) NotSupported refl
    ]

pub returns-in-Let-clause-begins : goal.returns-in-Let-clause-begins
returns-in-Let-clause-begins c = λ defs end given s.
    let w = source c.args.expr.now end defs in
    subst (λ (sh : Shape). (h : IsInList w c.args.store.now (state_of c.args.elaborator.now) c.args.at c.args.close c.args.place (meant sh) given) → Begins (list_beginning (meant sh) c.args.place h.first h.rest defs) c.enter_let.result) (sym c.in-Let.is)
    (λ h. c.enter_let.ensures.begins defs end given s h)

pub returns-in-Universal-clause-begins : goal.returns-in-Universal-clause-begins
returns-in-Universal-clause-begins c = λ defs end given s.
    let w = source c.args.expr.now end defs in
    subst (λ (sh : Shape). (h : IsInList w c.args.store.now (state_of c.args.elaborator.now) c.args.at c.args.close c.args.place (meant sh) given) → Begins (list_beginning (meant sh) c.args.place h.first h.rest defs) c.enter_quantifier.result) (sym c.in-Universal.is)
    (λ h. c.enter_quantifier.ensures.begins defs end given s h)

pub returns-in-Existential-clause-begins : goal.returns-in-Existential-clause-begins
returns-in-Existential-clause-begins c = λ defs end given s.
    let w = source c.args.expr.now end defs in
    subst (λ (sh : Shape). (h : IsInList w c.args.store.now (state_of c.args.elaborator.now) c.args.at c.args.close c.args.place (meant sh) given) → Begins (list_beginning (meant sh) c.args.place h.first h.rest defs) c.enter_quantifier-in-Existential.result) (sym c.in-Existential.is)
    (λ h. c.enter_quantifier-in-Existential.ensures.begins defs end given s h)

pub returns-in-Annotated-clause-begins : goal.returns-in-Annotated-clause-begins
returns-in-Annotated-clause-begins c = λ defs end given s.
    let w = source c.args.expr.now end defs in
    subst (λ (sh : Shape). (h : IsInList w c.args.store.now (state_of c.args.elaborator.now) c.args.at c.args.close c.args.place (meant sh) given) → Begins (list_beginning (meant sh) c.args.place h.first h.rest defs) c.enter_annotated.result) (sym c.in-Annotated.is)
    (λ h. c.enter_annotated.ensures.begins defs end given s h)

pub returns-in-Indexed-clause-begins : goal.returns-in-Indexed-clause-begins
returns-in-Indexed-clause-begins c = λ defs end given s.
    let w = source c.args.expr.now end defs in
    subst (λ (sh : Shape). (h : IsInList w c.args.store.now (state_of c.args.elaborator.now) c.args.at c.args.close c.args.place (meant sh) given) → Begins (list_beginning (meant sh) c.args.place h.first h.rest defs) c.enter_indexed.result) (sym c.in-Indexed.is)
    (λ h. c.enter_indexed.ensures.begins defs end given s h)

pub returns-in-Application-clause-begins : goal.returns-in-Application-clause-begins
returns-in-Application-clause-begins c = λ defs end given s.
    let w = source c.args.expr.now end defs in
    subst (λ (sh : Shape). (h : IsInList w c.args.store.now (state_of c.args.elaborator.now) c.args.at c.args.close c.args.place (meant sh) given) → Begins (list_beginning (meant sh) c.args.place h.first h.rest defs) c.enter_application.result) (sym c.in-Application.is)
    (λ h. c.enter_application.ensures.begins defs end given s h)
