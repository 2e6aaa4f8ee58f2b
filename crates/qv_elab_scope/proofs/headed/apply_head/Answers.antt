use Rattle.std.proofs.Common.{◌≡◌, List, sym, subst}
use Rattle.qv_words.specs.Tree.{Tree}
use Rattle.qv_elab_scope.specs.declared.heads.Head.{Head as Told}
use Rattle.qv_elab_defs.specs.Heads.{Head, Operator, Distinct}
use Rattle.qv_elab_scope.specs.Headed.{IsHead, name_at}
use Rattle.qv_elab_defs.specs.Answers.{Answers}
use Rattle.qv_elab_defs.specs.Applying.{application, distinct}
use Rattle.qv_elab_defs.specs.Built.{limited}
use Rattle.qv_elab_scope.specs.Ids.{IsApplied, applied_at}
use Rattle.qv_elab_scope.proofs.IdTrees.{at-trees}
use Rattle.qv_elab_scope.proofs.headed.apply_head.Goals as goal

pub returns-in-Operator-clause-answers : goal.returns-in-Operator-clause-answers
returns-in-Operator-clause-answers c = λ defs meant ts k.
    let name = name_at c.args.expr.now.text.items c.args.expr.now.items.items c.args.head_at in
    let is : meant ≡ Operator c.in-Operator.op = subst (λ (t : Told). IsHead defs name t meant) c.in-Operator.is k.is_head in
    subst (λ (m : Head). Answers c.apply_operator.new.store (applied_at c.args.place c.args.binders m ts) c.apply_operator.result) (sym is)
    (subst (λ (us : List Tree). Answers c.apply_operator.new.store (limited c.args.place (application c.in-Operator.op us)) c.apply_operator.result) (at-trees c.args.store.now c.args.args.now ts k.are) c.apply_operator.ensures.answer)

pub returns-in-Distinct-clause-answers : goal.returns-in-Distinct-clause-answers
returns-in-Distinct-clause-answers c = λ defs meant ts k.
    let name = name_at c.args.expr.now.text.items c.args.expr.now.items.items c.args.head_at in
    let is : meant ≡ Distinct = subst (λ (t : Told). IsHead defs name t meant) c.in-Distinct.is k.is_head in
    subst (λ (m : Head). Answers c.apply_distinct.new.store (applied_at c.args.place c.args.binders m ts) c.apply_distinct.result) (sym is)
    (subst (λ (us : List Tree). Answers c.apply_distinct.new.store (limited c.args.place (distinct us)) c.apply_distinct.result) (at-trees c.args.store.now c.args.args.now ts k.are) c.apply_distinct.ensures.answer)

pub use_named-requires-clause-applied : goal.use_named-requires-clause-applied
use_named-requires-clause-applied c =
    let a = c.args in
    let x = c.requires.applied in
    (x.0, x.1, x.2, subst (λ (t : Told). IsApplied a.store.now a.scope.now a.expr.now a.binders t a.head_at a.args.now x.0 x.1 x.2) c.in-Macro.is x.3)

pub returns-in-Macro-clause-answers : goal.returns-in-Macro-clause-answers
returns-in-Macro-clause-answers c = λ defs meant ts k.
    let a = c.args in
    c.use_named.ensures.answers defs meant ts (subst (λ (t : Told). IsApplied a.store.now a.scope.now a.expr.now a.binders t a.head_at a.args.now defs meant ts) c.in-Macro.is k)
