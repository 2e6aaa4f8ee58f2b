use Rattle.std.proofs.Common.{◌≡◌, ◌<◌, ◌≤◌, ℕ, List, length, take, refl, sym, ap, subst, ◌∙◌, arith}
use Rattle.std.specs.Prelude.{slice_set}
use Rattle.qv_sexpr.specs.declared.items.Item.{Item}
use Rattle.qv_sexpr.specs.Copying.{EndsBefore}
use Rattle.qv_sexpr.proofs.Standing.{stands_lt}
use Rattle.qv_script_parts.proofs.Attributes.{stands-begins}
use Rattle.qv_script_parts.proofs.Parting.{PartsLeft, parts-here, parts-onward, next-part, next-rises}
use Rattle.qv_script.proofs.Fronts.{next-count, take-set, take-length, set-length, front-whole, front-cut}
use Rattle.qv_script.proofs.Unlabelled.{by-place}
use Rattle.qv_script.proofs.step.front_of.Goals as goal

pub index-requires : goal.index-requires
index-requires c =
    let h = c.requires.expr in
    let first = stands_lt c.args.expr.now.items.items c.args.expr.now.text.items 0 h.0 (length c.args.expr.now.items.items) h.1 in
    omega (arith, first, c.args.expr.now.items.ok.0)

pub front-init : goal.front-init
front-init c = record {
  few = omega (arith);
  room = refl;
  left = parts-here c.args.expr.now.items.items c.args.expr.now.text.items 1 c.in-Open.close;
}

pub behind-next-requires : goal.behind-next-requires
behind-next-requires c =
    let a = c.args in
    let h = c.requires.expr in
    let begins = stands-begins a.expr.now 0 h.0 (length a.expr.now.items.items) h.1 in
    subst (λ (its : List Item). (to : ℕ) × (to ≤ length its) × (c.front.next < to) × EndsBefore its c.front.next to) (sym c.deref.ensures.value)
    (next-part a.expr.now 0 c.in-Open.close c.index.result.now h begins c.index.ensures c.in-Open.is c.front.next (take c.front.count c.front.parts) c.front.invariant.left c.front-test.true)

pub front-smaller : goal.front-smaller
front-smaller c =
    let a = c.args in
    let h = c.requires.expr in
    let begins = stands-begins a.expr.now 0 h.0 (length a.expr.now.items.items) h.1 in
    let ends = subst (λ (its : List Item). EndsBefore its c.front.next c.behind-next.result) c.deref.ensures.value c.behind-next.ensures in
    let rises = next-rises a.expr.now 0 c.in-Open.close c.index.result.now h begins c.index.ensures c.in-Open.is c.front.next (take c.front.count c.front.parts) c.front.invariant.left c.front-test.true c.behind-next.result ends in
    omega (arith, rises.0, rises.1)

pub front-preserved : goal.front-preserved
front-preserved c =
    let a = c.args in
    let few = c.if-count-lt-FRONT.true in
    let room = c.front.invariant.room in
    let ends = subst (λ (its : List Item). EndsBefore its c.front.next c.behind-next.result) c.deref.ensures.value c.behind-next.ensures in
    let written = ap (λ (n : ℕ). take n (slice_set c.front.parts c.front.count c.front.next)) (next-count c.front.count) ∙ take-set c.front.parts c.front.count c.front.next (omega (arith, few, room)) in
    record {
      few = omega (arith, few);
      room = set-length c.front.parts c.front.count c.front.next ∙ room;
      left =
          subst (λ (ats : List ℕ). PartsLeft a.expr.now.items.items a.expr.now.text.items 1 c.behind-next.result c.in-Open.close ats) (sym written)
          (parts-onward a.expr.now.items.items a.expr.now.text.items 1 c.front.next c.in-Open.close (take c.front.count c.front.parts) c.front.invariant.left c.front-test.true c.behind-next.result ends);
    }

pub returns-after-front-clause-parts : goal.returns-after-front-clause-parts
returns-after-front-clause-parts c = λ e p.
    let a = c.args in
    let h = c.requires.expr in
    let few = c.front.invariant.few in
    let room = c.front.invariant.room in
    let begins = stands-begins a.expr.now 0 h.0 (length a.expr.now.items.items) h.1 in
    let count : length (take c.front.count c.front.parts) ≡ c.front.count = take-length c.front.count c.front.parts (omega (arith, few, room)) in
    let over = c.front-test.false in
    by-place c.front.next c.in-Open.close
    (λ less. front-cut a.expr.now c.in-Open.close c.index.result.now h begins c.index.ensures c.in-Open.is c.front.next (take c.front.count c.front.parts) c.front.invariant.left (omega (arith, over, less, few, count)) e p)
    (λ more. front-whole a.expr.now c.in-Open.close c.index.result.now h begins c.index.ensures c.in-Open.is c.front.next (take c.front.count c.front.parts) c.front.invariant.left (omega (arith, few, count)) more e p)
