use Rattle.std.proofs.Common.{◌≡◌, ◌+◌, ℤ, pos, [], None, Result, Err, get_or, drop, to_z, of_z, w64, FitsSigned, rules, sym, subst}
use Rattle.std.proofs.lemmas.Int.{to_z-of_z}
use Rattle.std.proofs.lemmas.List.{get_or_default}
use Rattle.std.proofs.lemmas.Result.{err_from_is_err_and}
use Rattle.qv_cnf.specs.Rat.{judged_groups}
use Rattle.qv_rup.specs.Grouping.{EndsGrouped, JudgesHint, KeepsGroups}
use Rattle.qv_rup.specs.Judged.{IsJudged}
use Rattle.qv_rup.specs.declared.faults.StepFault.{StepFault}
use Rattle.qv_rup.proofs.Grouped.{going-fails, going-next}
use Rattle.qv_rup.proofs.groups.go_along.Goals as goal

pub going-preserved : goal.going-preserved
going-preserved c =
    let live = c.args.clauses.now.live in
    let p = c.args.pivot.now in
    let hints = c.args.hints.now in
    let i = c.going.place in
    let hint : ℤ = get_or hints i (pos 0) in
    let fits : FitsSigned w64 hint = search rules in
    let whole : to_z w64 (of_z w64 hint) ≡ hint = to_z-of_z w64 hint fits in
    let new = c.take_hint.new in
    going-next live p.lit c.args.marks.now hints c.args.from i p.kept hint c.going.groups.is_open new.groups.is_open c.going.marks new.marks c.going.groups.ids new.groups.ids c.going-test.true (get_or_default hints i (pos 0) hint c.going-test.true)
    (subst (λ (z : ℤ). JudgesHint live p.lit p.kept z (i + 1) c.going.groups.is_open new.groups.is_open c.going.marks new.marks (λ j next. j ≡ next)) whole c.in_ok-take_hint.ensures.judged)
    (subst (λ (z : ℤ). KeepsGroups z p.kept c.going.marks new.marks c.going.groups.ids new.groups.ids) whole c.in_ok-take_hint.ensures.keeps) c.going.invariant

pub returns-in_err-take_hint : goal.returns-in_err-take_hint
returns-in_err-take_hint c =
    let live = c.args.clauses.now.live in
    let p = c.args.pivot.now in
    let hints = c.args.hints.now in
    let i = c.going.place in
    let hint : ℤ = get_or hints i (pos 0) in
    let fits : FitsSigned w64 hint = search rules in
    let whole : to_z w64 (of_z w64 hint) ≡ hint = to_z-of_z w64 hint fits in
    let new = c.take_hint.new in
    let fault : StepFault = c.in_err-take_hint.field-0.0 in
    let e = err_from_is_err_and c.from_residual.result c.from_residual.ensures.1 in
    let is : c.from_residual.result ≡ Err fault = let q = e.1 in let r = e.2 in cc in
    subst (λ (r : Result (Unit {0}) StepFault). EndsGrouped live p.lit new.marks new.groups.ids new.groups.is_open r (judged_groups live p.lit c.args.marks.now None [] (drop c.args.from hints) (c.args.from + 1))) (sym is)
    (going-fails live p.lit c.args.marks.now hints c.args.from i p.kept hint c.going.groups.is_open new.groups.is_open c.going.marks new.marks c.going.groups.ids fault c.going-test.true (get_or_default hints i (pos 0) hint c.going-test.true)
    (subst (λ (z : ℤ). JudgesHint live p.lit p.kept z (i + 1) c.going.groups.is_open new.groups.is_open c.going.marks new.marks (λ j next. IsJudged (Err fault) j)) whole c.in_err-take_hint.ensures.judged) c.going.invariant)
