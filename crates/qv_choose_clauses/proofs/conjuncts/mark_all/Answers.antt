use Rattle.std.proofs.Common.{◌≡◌, ◌<◌, ◌≤◌, ◌+◌, ◌-◌, ℕ, suc, true, false, List, length, replicate, set, ap, sym, subst, ◌∙◌, arith, add-one}
use Rattle.std.proofs.lemmas.List.{length-set, length-replicate}
use Rattle.std.proofs.lemmas.Option.{slice_get_within}
use Rattle.qv_store.specs.Nodes.{tree_at}
use Rattle.qv_choose_clauses.specs.Conjuncts.{AreMarks}
use Rattle.qv_choose_clauses.proofs.MarkLaws.{marks-start, unmarked, marks-end}
use Rattle.qv_choose_clauses.proofs.conjuncts.mark_all.Goals as goal

pub marks-init : goal.marks-init
marks-init c =
    let store = c.args.store.now in
    let walk = c.args.walk.now in
    let marks = c.args.marks.now in
    let place = c.position.result in
    let own : length marks ≡ length walk = ap length c.requires.none ∙ length-replicate (length walk) false in
    let many : length (set marks place true) ≡ length walk = length-set marks place true ∙ own in
    let low : place < length walk = slice_get_within walk place c.args.region c.position.ensures.at in
    record {
      many = many;
      low = omega (arith, many);
      right = marks-start store walk c.args.region place (length (set marks place true)) marks c.position.ensures.at (omega (arith, low, many)) (omega (arith, low, own)) (unmarked (length walk) marks c.requires.none);
    }

pub marks-preserved : goal.marks-preserved
marks-preserved c =
    let low : suc (c.marks.left - 1) ≡ c.marks.left = omega (arith, c.marks-test.true) in
    record {
      many = c.mark_sides.ensures.many ∙ c.marks.invariant.many;
      low = omega (arith, c.marks.invariant.low);
      right = c.mark_sides.ensures.marks (tree_at c.args.store.now c.args.region)
          (subst (AreMarks c.args.store.now (tree_at c.args.store.now c.args.region) c.args.walk.now c.marks.marks) (sym low) c.marks.invariant.right);
    }

pub returns-clause-marks : goal.returns-clause-marks
returns-clause-marks c =
    let none : c.marks.left ≡ 0 = omega (arith, c.marks-test.false) in
    marks-end c.args.store.now (tree_at c.args.store.now c.args.region) c.args.walk.now c.marks.marks c.requires.shared c.requires.walk
    (subst (AreMarks c.args.store.now (tree_at c.args.store.now c.args.region) c.args.walk.now c.marks.marks) none c.marks.invariant.right)
