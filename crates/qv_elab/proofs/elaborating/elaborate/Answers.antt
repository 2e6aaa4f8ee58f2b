use Rattle.std.proofs.Common.{[], sym, subst}
use Rattle.qv_sexpr.proofs.Copies.{begun}
use Rattle.qv_elab_defs.specs.Scopes.{outermost}
use Rattle.qv_elab_defs.specs.Elaborating.{elab}
use Rattle.qv_elab_defs.specs.Looking.{looks_of}
use Rattle.qv_elab_frames.specs.Loop.{State, source, state_of, IsReading}
use Rattle.qv_elab_defs.proofs.Looked.{makes}
use Rattle.qv_elab_scope.proofs.Seeing.{answered-of}
use Rattle.qv_elab.proofs.Starting.{begins, all-begins}
use Rattle.qv_elab.proofs.elaborating.elaborate.Goals as goal

pub run-requires-clause-reading : goal.run-requires-clause-reading
run-requires-clause-reading c =
    let s = c.requires.scope in
    let there = begun c.args.expr.now c.args.at c.requires.expr c.requires.at in
    let given = looks_of there.0 (outermost s.0) [] in
    let begun = begins c.args.store.now c.args.expr.now c.args.scope.now s.0 c.args.at there.1 there.0 s.1 there.2 in
    (s.0, there.1, given, (s.1, subst (λ (st : State). IsReading (source c.args.expr.now there.1 s.0) c.args.store.now st c.args.at given) (sym c.new-elaborator.ensures) begun))

pub returns-clause-answers : goal.returns-clause-answers
returns-clause-answers c = λ defs e to s stands.
    let given = looks_of e (outermost defs) [] in
    let seen = c.run.ensures.sees defs to given s
    (subst (λ (st : State). IsReading (source c.args.expr.now to defs) c.args.store.now st c.args.at given) (sym c.new-elaborator.ensures)
    (begins c.args.store.now c.args.expr.now c.args.scope.now defs c.args.at to e s stands)) in
    answered-of c.run.new.store c.run.new.elaborator.watched.items (looks_of e (outermost defs)) (elab e (outermost defs)) [] (makes e (outermost defs)) c.run.result seen

pub returns-clause-begins : goal.returns-clause-begins
returns-clause-begins c = λ defs e to s stands.
    all-begins c.args.store.now c.args.expr.now c.args.scope.now defs c.args.at to e (state_of c.new-elaborator.result) c.run.result s stands c.new-elaborator.ensures
    (c.run.ensures.begins defs to (looks_of e (outermost defs) []) s)
