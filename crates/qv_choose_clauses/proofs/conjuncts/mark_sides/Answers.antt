use Rattle.std.proofs.Common.{◌≡◌, ◌<◌, ◌≤◌, ℕ, true, false, Option, Some, length, slice_get, ap, sym, ◌∙◌, subst, arith}
use Rattle.std.proofs.lemmas.Option.{slice_get-get_or}
use Rattle.qv_store.specs.Nodes.{tree_at}
use Rattle.qv_store.proofs.Passes.{earlier-in}
use Rattle.qv_choose_clauses.specs.Sides.{AreSidesOf}
use Rattle.qv_choose_clauses.proofs.SideLaws.{sides-earlier}
use Rattle.qv_choose_clauses.proofs.MarkLaws.{get-known, not-marked, joins-none, both-marked}
use Rattle.qv_choose_clauses.proofs.conjuncts.mark_sides.Goals as goal

pub returns-then-not-marks-number-clause-marks : goal.returns-then-not-marks-number-clause-marks
returns-then-not-marks-number-clause-marks c =
    not-marked c.args.store.now c.args.walk.now c.args.number c.args.marks.now (get-known c.args.marks.now c.args.number _ false c.requires.number c.if-not-marks-number.true)

pub mark_both-requires-clause-a : goal.mark_both-requires-clause-a
mark_both-requires-clause-a c =
    let walk = c.args.walk.now in
    let k = c.args.number in
    let id = c.index-ids-number.result in
    let low : k < length walk = omega (arith, c.requires.number, c.requires.many) in
    let at : slice_get walk k ≡ Some id = ap (λ xs. slice_get xs k) (sym c.ids.ensures) ∙ slice_get-get_or c.ids.result.now k id (omega (arith, low, ap length c.ids.ensures)) ∙ ap (λ n. Some n) (sym c.index-ids-number.is) in
    let joins = subst (λ (o : Option (ℕ × ℕ)). AreSidesOf true c.args.store.now id o) c.in-Some.is c.sides_of.ensures in
    earlier-in walk k (length walk) c.in-Some.sides.0 (omega (arith, low)) (sides-earlier true c.args.store.now walk k id c.in-Some.sides.0 c.in-Some.sides.1 c.requires.shared c.requires.walk at joins).0

pub mark_both-requires-clause-b : goal.mark_both-requires-clause-b
mark_both-requires-clause-b c =
    let walk = c.args.walk.now in
    let k = c.args.number in
    let id = c.index-ids-number.result in
    let low : k < length walk = omega (arith, c.requires.number, c.requires.many) in
    let at : slice_get walk k ≡ Some id = ap (λ xs. slice_get xs k) (sym c.ids.ensures) ∙ slice_get-get_or c.ids.result.now k id (omega (arith, low, ap length c.ids.ensures)) ∙ ap (λ n. Some n) (sym c.index-ids-number.is) in
    let joins = subst (λ (o : Option (ℕ × ℕ)). AreSidesOf true c.args.store.now id o) c.in-Some.is c.sides_of.ensures in
    earlier-in walk k (length walk) c.in-Some.sides.1 (omega (arith, low)) (sides-earlier true c.args.store.now walk k id c.in-Some.sides.0 c.in-Some.sides.1 c.requires.shared c.requires.walk at joins).1

pub returns-in-None-clause-marks : goal.returns-in-None-clause-marks
returns-in-None-clause-marks c =
    let walk = c.args.walk.now in
    let k = c.args.number in
    let id = c.index-ids-number.result in
    let low : k < length walk = omega (arith, c.requires.number, c.requires.many) in
    let at : slice_get walk k ≡ Some id = ap (λ xs. slice_get xs k) (sym c.ids.ensures) ∙ slice_get-get_or c.ids.result.now k id (omega (arith, low, ap length c.ids.ensures)) ∙ ap (λ n. Some n) (sym c.index-ids-number.is) in
    joins-none c.args.store.now walk k id c.args.marks.now at (subst (λ (o : Option (ℕ × ℕ)). AreSidesOf true c.args.store.now id o) c.in-None.is c.sides_of.ensures)

pub returns-in-Some-clause-marks : goal.returns-in-Some-clause-marks
returns-in-Some-clause-marks c =
    let walk = c.args.walk.now in
    let k = c.args.number in
    let id = c.index-ids-number.result in
    let low : k < length walk = omega (arith, c.requires.number, c.requires.many) in
    let at : slice_get walk k ≡ Some id = ap (λ xs. slice_get xs k) (sym c.ids.ensures) ∙ slice_get-get_or c.ids.result.now k id (omega (arith, low, ap length c.ids.ensures)) ∙ ap (λ n. Some n) (sym c.index-ids-number.is) in
    let joins = subst (λ (o : Option (ℕ × ℕ)). AreSidesOf true c.args.store.now id o) c.in-Some.is c.sides_of.ensures in
    both-marked c.args.store.now walk k id c.in-Some.sides.0 c.in-Some.sides.1 c.args.marks.now c.mark_both.new.marks c.requires.shared c.requires.walk at
    (get-known c.args.marks.now k _ true c.requires.number c.if-not-marks-number.false) joins c.requires.many c.mark_both.ensures.marks
