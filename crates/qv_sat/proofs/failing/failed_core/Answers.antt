use Rattle.std.proofs.Common.{◌≡◌, ◌+◌, ◌-◌, ℕ, List, Bool, true, false, Some, None, length, [], ◌∷◌, ◌++◌, arith, subst, sym, ◌∙◌, ap}
use Rattle.qv_cnf.specs.Literal.{Literal}
use Rattle.qv_watch.proofs.Growing.{once_grown}
use Rattle.qv_watch.proofs.Valuing.{written}
use Rattle.qv_sat.specs.Marking.{is_marked}
use Rattle.qv_sat.proofs.Entries.{entry_in_order, reason_in_order}
use Rattle.qv_sat.proofs.Depending.{Depends, Depends-start, Depends-skip, Depends-decided, Depends-reason, false_room}
use Rattle.qv_sat.proofs.failing.failed_core.Goals as goal
use Rattle.qv_sat.proofs.failing.failed_core.Goals.{After-index-order-left}
use Rattle.qv_watch.proofs.Minding.{length-trues}

pub mark-requires : goal.mark-requires
mark-requires c =
    let r = false_room c.args.trail.now c.args.failed c.requires.trail c.requires.failed in
    let same = c.requires.room in
    omega (arith, c.deref_mut.ensures.len, c.in_ok-marks.ensures.len)

pub loop-left-init : goal.loop-left-init
loop-left-init c =
    let core : c.push.new.self.items ≡ c.args.failed ∷ [] = c.in_ok-push.ensures.items ∙ ap (λ (xs : List Literal). xs ++ c.args.failed ∷ []) c.new-core.ensures.items in
    let long : length c.mark.new.marks ≡ c.in_ok-marks.marks.len = omega (arith, c.mark.auto.marks, c.deref_mut.ensures.len) in
    let marks = written c.mark.new.marks c.in_ok-marks.marks.items c.in_ok-marks.marks.len long in
    let n : length c.order-order.result.now ≡ length c.args.trail.now.entries = ap length c.order-order.ensures.order ∙ length-trues c.args.trail.now.entries in
    rw (marks, core) record {
      depends = Depends-start c.args.trail.now.clauses c.args.trail.now.entries c.args.failed c.mark.new.marks (length c.order-order.result.now) c.requires.failed c.mark.ensures.marked (omega arith);
      within = omega arith;
      long = omega (arith, c.in_ok-marks.ensures.len);
    }

pub loop-left-preserved-in-Continue-branch-3 : goal.loop-left-preserved-in-Continue-branch-3
loop-left-preserved-in-Continue-branch-3 c =
    let t = c.args.trail.now in
    let k = c.loop-left.left - 1 in
    let lit = c.index-order-left.result in
    let at = entry_in_order t.entries c.order-order.result.now k lit c.order-order.ensures.order (omega (arith, c.loop-left.invariant.within)) c.index-order-left.is in
    let reason : at.0.reason ≡ None = reason_in_order t.entries k at.0 lit None (once_grown t.room t.clauses t.entries c.requires.trail.grown) at.1 at.2 c.in_default.ensures in
    let left : c.loop-left.left ≡ k + 1 = omega arith in
    let was : Depends t.clauses t.entries c.args.failed c.loop-left.marks.items c.loop-left.core.items (k + 1) = subst (Depends t.clauses t.entries c.args.failed c.loop-left.marks.items c.loop-left.core.items) left c.loop-left.invariant.depends in
    let core : c.loop-left.core.items ++ at.0.lit ∷ [] ≡ c.push-in_default.new.self.items = ap (λ (l : Literal). c.loop-left.core.items ++ l ∷ []) at.2 ∙ sym c.in_ok-push-2.ensures.items in
    record {
      depends = subst (λ (xs : List Literal). Depends t.clauses t.entries c.args.failed c.loop-left.marks.items xs k) core (Depends-decided t.clauses t.entries c.args.failed c.loop-left.marks.items c.loop-left.core.items k at.0 was at.1 reason);
      within = omega (arith, c.loop-left.invariant.within);
      long = c.loop-left.invariant.long;
    }

pub loop-left-preserved-in-Some : goal.loop-left-preserved-in-Some
loop-left-preserved-in-Some c =
    let t = c.args.trail.now in
    let k = c.loop-left.left - 1 in
    let lit = c.index-order-left.result in
    let at = entry_in_order t.entries c.order-order.result.now k lit c.order-order.ensures.order (omega (arith, c.loop-left.invariant.within)) c.index-order-left.is in
    let reason : at.0.reason ≡ Some c.in-Some.id = reason_in_order t.entries k at.0 lit (Some c.in-Some.id) (once_grown t.room t.clauses t.entries c.requires.trail.grown) at.1 at.2 c.in-Some.ensures in
    let left : c.loop-left.left ≡ k + 1 = omega arith in
    let was : Depends t.clauses t.entries c.args.failed c.loop-left.marks.items c.loop-left.core.items (k + 1) = subst (Depends t.clauses t.entries c.args.failed c.loop-left.marks.items c.loop-left.core.items) left c.loop-left.invariant.depends in
    let kept : (v : ℕ) → is_marked c.loop-left.marks.items v ≡ true → is_marked c.mark_clause.new.marks v ≡ true =
    λ v h. c.mark_clause.ensures.kept v (ap (λ (ms : List Bool). is_marked ms v) c.deref_mut-in-Some.ensures.value ∙ h) in
    let long : length c.mark_clause.new.marks ≡ c.loop-left.marks.len = omega (arith, c.mark_clause.auto.marks, c.deref_mut-in-Some.ensures.len) in
    let marks = written c.mark_clause.new.marks c.loop-left.marks.items c.loop-left.marks.len long in
    rw marks record {
      depends = Depends-reason t.room t.clauses t.entries c.args.failed c.loop-left.marks.items c.mark_clause.new.marks c.loop-left.core.items k c.in-Some.id at.0 was c.requires.trail.grown at.1 reason c.mark_clause.ensures.marked kept;
      within = omega (arith, c.loop-left.invariant.within);
      long = omega (arith, c.loop-left.invariant.long, c.mark_clause.auto.marks, ap length c.deref_mut-in-Some.ensures.value);
    }

pub loop-left-preserved : goal.loop-left-preserved
loop-left-preserved c =
    let t = c.args.trail.now in
    let k = c.loop-left.left - 1 in
    let lit = c.index-order-left.result in
    let at = entry_in_order t.entries c.order-order.result.now k lit c.order-order.ensures.order (omega (arith, c.loop-left.invariant.within)) c.index-order-left.is in
    let left : c.loop-left.left ≡ k + 1 = omega arith in
    let was : Depends t.clauses t.entries c.args.failed c.loop-left.marks.items c.loop-left.core.items (k + 1) = subst (Depends t.clauses t.entries c.args.failed c.loop-left.marks.items c.loop-left.core.items) left c.loop-left.invariant.depends in
    let not_marked : is_marked c.loop-left.marks.items lit.variable ≡ false = ap (λ (ms : List Bool). is_marked ms lit.variable) (sym c.deref.ensures.value) ∙ sym c.has_mark.ensures ∙ c.if-has_mark.false in
    record {
      depends = Depends-skip t.clauses t.entries c.args.failed c.loop-left.marks.items c.loop-left.core.items k at.0 was at.1 (ap (λ (l : Literal). is_marked c.loop-left.marks.items l.variable) at.2 ∙ not_marked);
      within = omega (arith, c.loop-left.invariant.within);
      long = c.loop-left.invariant.long;
    }
