use Rattle.std.proofs.Common.{Some, None, refl, sym, ap, ◌∙◌}
use Rattle.qv_elab_defs.specs.declared.faults.ElabKind.TheVariants.{Index}
use Rattle.qv_elab_defs.specs.Faults.{refuse}
use Rattle.qv_elab_defs.specs.Heads.{Operator}
use Rattle.qv_elab_scope.proofs.NamedHeads.{known-large, known-small}
use Rattle.qv_elab_scope.proofs.heads.known_head.Goals as goal

pub returns-in-Some : goal.returns-in-Some
returns-in-Some c = λ h o defs at e p k. known-large c.args.text.now c.args.numerals.now c.in-Some.place c.in-Some.ensures h o e

pub returns-in-Some-op : goal.returns-in-Some-op
returns-in-Some-op c = λ h o defs at e p k.
    (Operator c.in-Some-op.op, known-small c.args.text.now c.args.numerals.now c.in_default.ensures (Some c.in-Some-op.op) h o e (λ f. sym c.in-Some-op.is ∙ k f), refl)

pub returns-in-None : goal.returns-in-None
returns-in-None c = λ h o defs at e p k.
    known-small c.args.text.now c.args.numerals.now c.in_default.ensures None h o e (λ f. sym c.in-None.is ∙ k f) ∙ ap (λ q. refuse q Index) p
