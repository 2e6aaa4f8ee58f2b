use Rattle.std.proofs.Common.{◌+◌, ◌<◌, ◌≤◌, ℕ, List, [], length, sym, subst, arith}
use Rattle.std.proofs.lemmas.Result.{err_from_is_err_and}
use Rattle.qv_sexpr.specs.declared.items.Item.{Item}
use Rattle.qv_sexpr.specs.Copying.{EndsBefore}
use Rattle.qv_elab.specs.declared.bodies.Parameter.{Parameter}
use Rattle.qv_elab.specs.ParameterLists.{AreReadBefore}
use Rattle.qv_elab.proofs.ReadParameters.{read-here, list-there, inside-of, pair-left, left-before, left-is, parameters-out, read-next, read-ends}
use Rattle.qv_elab.proofs.parameters.read_parameters.Goals as goal

pub pairs-init : goal.pairs-init
pairs-init c = record {
  read = λ trees defs inside ps i k stand.
      let a = c.args in
      subst (λ (names : List (List ℕ)). AreReadBefore a.expr.now defs ps names c.new-parameters.result.items (a.at + 1) c.in-Open.close) (sym c.new-names.ensures)
      (subst (λ (qs : List Parameter). AreReadBefore a.expr.now defs ps [] qs (a.at + 1) c.in-Open.close) (sym c.new-parameters.ensures.items)
      (read-here a.expr.now defs ps inside (a.at + 1) c.in-Open.close k stand));
}

pub add_parameter-requires-clause-pair : goal.add_parameter-requires-clause-pair
add_parameter-requires-clause-pair c =
    let a = c.args in
    let x = c.requires.pairs in
    let defs = c.requires.scope.1 in
    let l = list-there a.expr.now a.at c.in-Open.close x.1 x.0 c.index.result.now x.3 c.requires.at c.index.ensures c.in-Open.is in
    let k = inside-of a.expr.now a.at c.in-Open.close x.1 x.0 c.index.result.now x.3 c.requires.at c.index.ensures c.in-Open.is x.2 x.4 in
    let b = c.pairs.invariant.read c.requires.scope.0 defs l.inside x.2 c.requires.scope.2 k l.stand in
    let first = pair-left a.expr.now defs x.2 c.pairs.names c.pairs.parameters.items c.pairs.next c.in-Open.close b c.pairs-test.true in
    (first.p, first.pair)

pub returns-in_err-add_parameter : goal.returns-in_err-add_parameter
returns-in_err-add_parameter c = record {
  read = λ trees defs e to ps i stands listed.
      let a = c.args in
      let l = list-there a.expr.now a.at c.in-Open.close to e c.index.result.now stands c.requires.at c.index.ensures c.in-Open.is in
      let k = inside-of a.expr.now a.at c.in-Open.close to e c.index.result.now stands c.requires.at c.index.ensures c.in-Open.is ps listed in
      let b = c.pairs.invariant.read trees defs l.inside ps i k l.stand in
      let first = pair-left a.expr.now defs ps c.pairs.names c.pairs.parameters.items c.pairs.next c.in-Open.close b c.pairs-test.true in
      let q = err_from_is_err_and c.from_residual.result c.from_residual.ensures.1 in
      parameters-out a.expr.now defs ps c.pairs.names c.pairs.parameters.items c.pairs.next c.in-Open.close b first c.add_parameter.new.names c.pairs.parameters.items c.add_parameter.new.parameters.items c.add_parameter.result c.in_err-add_parameter.field-0.0 q.0 c.from_residual.result (c.add_parameter.ensures trees defs first.p i first.pair) c.in_err-add_parameter.was q.1 q.2;
}

pub behind-next-requires : goal.behind-next-requires
behind-next-requires c =
    let a = c.args in
    let x = c.requires.pairs in
    let defs = c.requires.scope.1 in
    let l = list-there a.expr.now a.at c.in-Open.close x.1 x.0 c.index.result.now x.3 c.requires.at c.index.ensures c.in-Open.is in
    let k = inside-of a.expr.now a.at c.in-Open.close x.1 x.0 c.index.result.now x.3 c.requires.at c.index.ensures c.in-Open.is x.2 x.4 in
    let b = c.pairs.invariant.read c.requires.scope.0 defs l.inside x.2 c.requires.scope.2 k l.stand in
    let first = pair-left a.expr.now defs x.2 c.pairs.names c.pairs.parameters.items c.pairs.next c.in-Open.close b c.pairs-test.true in
    let before = left-before a.expr.now defs x.2 c.pairs.names c.pairs.parameters.items c.pairs.next c.in-Open.close b first in
    subst (λ (its : List Item). (to : ℕ) × (to ≤ length its) × (c.pairs.next < to) × EndsBefore its c.pairs.next to) (sym c.deref.ensures.value) (first.behind, before.0, before.1, before.3)

pub pairs-smaller : goal.pairs-smaller
pairs-smaller c =
    let a = c.args in
    let x = c.requires.pairs in
    let defs = c.requires.scope.1 in
    let l = list-there a.expr.now a.at c.in-Open.close x.1 x.0 c.index.result.now x.3 c.requires.at c.index.ensures c.in-Open.is in
    let k = inside-of a.expr.now a.at c.in-Open.close x.1 x.0 c.index.result.now x.3 c.requires.at c.index.ensures c.in-Open.is x.2 x.4 in
    let b = c.pairs.invariant.read c.requires.scope.0 defs l.inside x.2 c.requires.scope.2 k l.stand in
    let first = pair-left a.expr.now defs x.2 c.pairs.names c.pairs.parameters.items c.pairs.next c.in-Open.close b c.pairs-test.true in
    let before = left-before a.expr.now defs x.2 c.pairs.names c.pairs.parameters.items c.pairs.next c.in-Open.close b first in
    let ends = subst (λ (its : List Item). EndsBefore its c.pairs.next c.behind-next.result) c.deref.ensures.value c.behind-next.ensures in
    let same = left-is a.expr.now defs x.2 c.pairs.names c.pairs.parameters.items c.pairs.next c.in-Open.close b first c.behind-next.result ends in
    let lt : c.pairs.next < c.in-Open.close = c.pairs-test.true in
    omega (arith, before.1, same, lt)

pub pairs-preserved : goal.pairs-preserved
pairs-preserved c = record {
  read = λ trees defs inside ps i k stand.
      let a = c.args in
      let b = c.pairs.invariant.read trees defs inside ps i k stand in
      let first = pair-left a.expr.now defs ps c.pairs.names c.pairs.parameters.items c.pairs.next c.in-Open.close b c.pairs-test.true in
      let ends = subst (λ (its : List Item). EndsBefore its c.pairs.next c.behind-next.result) c.deref.ensures.value c.behind-next.ensures in
      read-next a.expr.now defs ps c.pairs.names c.pairs.parameters.items c.pairs.next c.in-Open.close b first c.add_parameter.new.names c.add_parameter.new.parameters.items (c.in_ok-add_parameter.ensures trees defs first.p i first.pair) c.behind-next.result ends;
}

pub returns : goal.returns
returns c = record {
  read = λ trees defs e to ps i stands listed.
      let a = c.args in
      let l = list-there a.expr.now a.at c.in-Open.close to e c.index.result.now stands c.requires.at c.index.ensures c.in-Open.is in
      let k = inside-of a.expr.now a.at c.in-Open.close to e c.index.result.now stands c.requires.at c.index.ensures c.in-Open.is ps listed in
      let b = c.pairs.invariant.read trees defs l.inside ps i k l.stand in
      read-ends a.expr.now defs ps c.pairs.names c.pairs.parameters.items c.pairs.next c.in-Open.close b c.pairs-test.false;
}
