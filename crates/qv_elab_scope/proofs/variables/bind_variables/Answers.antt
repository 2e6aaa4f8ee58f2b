use Rattle.std.proofs.Common.{◌<◌, ◌≤◌, ℕ, [], List, length, sym, subst, arith}
use Rattle.std.proofs.lemmas.List.{append-nil}
use Rattle.std.proofs.lemmas.Result.{err_from_is_err_and}
use Rattle.qv_sexpr.specs.declared.items.Item.{Item}
use Rattle.qv_sexpr.specs.Copying.{EndsBefore}
use Rattle.qv_store.proofs.Replacement.{grows-more}
use Rattle.qv_elab_scope.proofs.Growing.{scope-grows}
use Rattle.qv_elab_scope.proofs.BoundVariables.{bound-here, pair-left, left-before, left-is, bound-out, bound-next, bound-ends}
use Rattle.qv_elab_scope.proofs.variables.bind_variables.Goals as goal

pub variables-init : goal.variables-init
variables-init c = record {
  grows = record { more = []; behind = sym (append-nil c.args.store.now) };
  bound = λ defs pairs ps s e h. bound-here c.args.expr.now defs c.args.level ps c.args.bound.now c.args.store.now pairs c.args.from c.args.to e h;
}

pub bind_variable-requires-clause-scope : goal.bind_variable-requires-clause-scope
bind_variable-requires-clause-scope c = (c.requires.scope.0, scope-grows c.args.store.now c.variables.store c.variables.invariant.grows c.args.scope.now c.requires.scope.0 c.requires.scope.1)

pub bind_variable-requires-clause-pair : goal.bind_variable-requires-clause-pair
bind_variable-requires-clause-pair c =
    let a = c.args in
    let p = c.requires.pairs in
    let defs = c.requires.scope.0 in
    let b = c.variables.invariant.bound defs p.0 p.1 c.requires.scope.1 p.2 p.3 in
    let l = pair-left a.expr.now defs a.level p.1 a.bound.now c.variables.store c.variables.bound c.variables.at a.to c.variables.below b c.variables-test.true in
    (l.p, l.pair)

pub returns-in_err-below-clause-binds : goal.returns-in_err-below-clause-binds
returns-in_err-below-clause-binds c = λ defs pairs ps s e h.
    let a = c.args in
    let b = c.variables.invariant.bound defs pairs ps s e h in
    let l = pair-left a.expr.now defs a.level ps a.bound.now c.variables.store c.variables.bound c.variables.at a.to c.variables.below b c.variables-test.true in
    let q = err_from_is_err_and c.from_residual.result c.from_residual.ensures.1 in
    bound-out a.expr.now defs a.level ps a.bound.now c.variables.store c.variables.bound c.variables.at a.to c.variables.below b l c.bind_variable.new.store c.bind_variable.new.bound c.in_err-below.field-0.0 q.0 c.from_residual.result (c.in_err-below.ensures.binds defs l.p (scope-grows c.args.store.now c.variables.store c.variables.invariant.grows c.args.scope.now defs s) l.pair) q.1 q.2

pub behind-at-requires : goal.behind-at-requires
behind-at-requires c =
    let a = c.args in
    let p = c.requires.pairs in
    let defs = c.requires.scope.0 in
    let b = c.variables.invariant.bound defs p.0 p.1 c.requires.scope.1 p.2 p.3 in
    let l = pair-left a.expr.now defs a.level p.1 a.bound.now c.variables.store c.variables.bound c.variables.at a.to c.variables.below b c.variables-test.true in
    let n = left-before a.expr.now defs a.level p.1 a.bound.now c.variables.store c.variables.bound c.variables.at a.to c.variables.below b l in
    subst (λ (its : List Item). (to : ℕ) × (to ≤ length its) × (c.variables.at < to) × EndsBefore its c.variables.at to) (sym c.deref.ensures.value) (l.behind, n.0, n.1, n.3)

pub variables-smaller : goal.variables-smaller
variables-smaller c =
    let a = c.args in
    let p = c.requires.pairs in
    let defs = c.requires.scope.0 in
    let b = c.variables.invariant.bound defs p.0 p.1 c.requires.scope.1 p.2 p.3 in
    let l = pair-left a.expr.now defs a.level p.1 a.bound.now c.variables.store c.variables.bound c.variables.at a.to c.variables.below b c.variables-test.true in
    let n = left-before a.expr.now defs a.level p.1 a.bound.now c.variables.store c.variables.bound c.variables.at a.to c.variables.below b l in
    let ends = subst (λ (its : List Item). EndsBefore its c.variables.at c.behind-at.result) c.deref.ensures.value c.behind-at.ensures in
    let is = left-is a.expr.now defs a.level p.1 a.bound.now c.variables.store c.variables.bound c.variables.at a.to c.variables.below b l c.behind-at.result ends in
    omega (arith, n.1, n.2, is, c.variables-test.true)

pub variables-preserved : goal.variables-preserved
variables-preserved c = record {
  grows = grows-more c.args.store.now c.variables.store c.bind_variable.new.store c.variables.invariant.grows c.bind_variable.ensures.grows;
  bound = λ defs pairs ps s e h.
      let a = c.args in
      let b = c.variables.invariant.bound defs pairs ps s e h in
      let l = pair-left a.expr.now defs a.level ps a.bound.now c.variables.store c.variables.bound c.variables.at a.to c.variables.below b c.variables-test.true in
      let ends = subst (λ (its : List Item). EndsBefore its c.variables.at c.behind-at.result) c.deref.ensures.value c.behind-at.ensures in
      bound-next a.expr.now defs a.level ps a.bound.now c.variables.store c.variables.bound c.variables.at a.to c.variables.below b l c.bind_variable.new.store c.bind_variable.new.bound c.behind-at.result c.in_ok-below.below c.bind_variable.ensures.grows (c.in_ok-below.ensures.binds defs l.p (scope-grows c.args.store.now c.variables.store c.variables.invariant.grows c.args.scope.now defs s) l.pair) ends;
}

pub returns-clause-binds : goal.returns-clause-binds
returns-clause-binds c = λ defs pairs ps s e h.
    let a = c.args in
    let b = c.variables.invariant.bound defs pairs ps s e h in
    bound-ends a.expr.now defs a.level ps a.bound.now c.variables.store c.variables.bound c.variables.at a.to c.variables.below b c.variables-test.false
