use Rattle.std.proofs.Common.{◌<◌, ◌≤◌, ◌+◌, ℕ, List, length, sym, subst, arith}
use Rattle.qv_sexpr.specs.declared.items.Item.{Item}
use Rattle.qv_sexpr.specs.Copying.{EndsBefore}
use Rattle.qv_script_parts.proofs.Parting.{PartsLeft, parts-here, parts-onward, next-part, next-rises, all-parts}
use Rattle.qv_script_parts.proofs.parts.parts_of.Goals as goal

pub parts-init : goal.parts-init
parts-init c = record {
  left =
      let a = c.args in
      subst (λ (ats : List ℕ). PartsLeft a.expr.now.items.items a.expr.now.text.items (a.at + 1) (a.at + 1) c.in-Open.close ats) (sym c.new-parts.ensures.items)
      (parts-here a.expr.now.items.items a.expr.now.text.items (a.at + 1) c.in-Open.close);
}

pub behind-next-requires : goal.behind-next-requires
behind-next-requires c =
    let a = c.args in
    subst (λ (its : List Item). (to : ℕ) × (to ≤ length its) × (c.parts.next < to) × EndsBefore its c.parts.next to) (sym c.deref.ensures.value)
    (next-part a.expr.now a.at c.in-Open.close c.index.result.now c.requires.expr c.requires.at c.index.ensures c.in-Open.is c.parts.next c.parts.parts.items c.parts.invariant.left c.parts-test.true)

pub parts-smaller : goal.parts-smaller
parts-smaller c =
    let a = c.args in
    let ends = subst (λ (its : List Item). EndsBefore its c.parts.next c.behind-next.result) c.deref.ensures.value c.behind-next.ensures in
    let rises = next-rises a.expr.now a.at c.in-Open.close c.index.result.now c.requires.expr c.requires.at c.index.ensures c.in-Open.is c.parts.next c.parts.parts.items c.parts.invariant.left c.parts-test.true c.behind-next.result ends in
    omega (arith, rises.0, rises.1)

pub parts-preserved : goal.parts-preserved
parts-preserved c = record {
  left =
      let a = c.args in
      let ends = subst (λ (its : List Item). EndsBefore its c.parts.next c.behind-next.result) c.deref.ensures.value c.behind-next.ensures in
      subst (λ (ats : List ℕ). PartsLeft a.expr.now.items.items a.expr.now.text.items (a.at + 1) c.behind-next.result c.in-Open.close ats) (sym c.in_ok-push.ensures.items)
      (parts-onward a.expr.now.items.items a.expr.now.text.items (a.at + 1) c.parts.next c.in-Open.close c.parts.parts.items c.parts.invariant.left c.parts-test.true c.behind-next.result ends);
}

pub returns : goal.returns
returns c = λ e p.
    let a = c.args in
    all-parts a.expr.now a.at c.in-Open.close c.index.result.now c.requires.expr c.requires.at c.index.ensures c.in-Open.is c.parts.next c.parts.parts.items c.parts.invariant.left c.parts-test.false e p
