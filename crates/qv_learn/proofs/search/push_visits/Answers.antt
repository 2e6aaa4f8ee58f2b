use Rattle.std.proofs.Common.{◌≡◌, ◌+◌, [], ◌∷◌, ◌++◌, take, reverse, ap, ◌∙◌, arith}
use Rattle.qv_cnf.specs.Literal.{Literal}
use Rattle.qv_learn.proofs.Turning.{taken, PutsVisits-more, PutsVisits-own}
use Rattle.qv_learn.specs.declared.search.Task.TheVariants.{Visit}
use Rattle.qv_learn.proofs.search.push_visits.Goals as goal
use Rattle.qv_learn.proofs.search.push_visits.Goals.{then-variable-own+in_ok-push, else-variable-own}

pub loop-lit-preserved : goal.loop-lit-preserved
loop-lit-preserved c =
    let x = c.lit-item.result in
    let v = c.args.own in
    let before = take c.loop-lit.lit-index c.args.lits.now in
    let old = reverse c.args.tasks.now.items in
    let more : take (c.loop-lit.lit-index + 1) c.args.lits.now ≡ before ++ x ∷ [] = taken c.args.lits.now c.loop-lit.lit-index x c.loop-lit-test.true c.lit-item.is in
    rw more (elim c.if-variable-own.branch [
      | then-variable-own+in_ok-push w ↦ rw w.tasks-is (PutsVisits-more v before x old c.loop-lit.tasks.items w.push.new.self.items (omega (arith, w.if-variable-own.true, c.variable.ensures.value)) (w.in_ok-push.ensures.items ∙ ap (λ (y : Literal). c.loop-lit.tasks.items ++ Visit y ∷ []) w.negated.ensures) c.loop-lit.invariant)
      | else-variable-own w ↦ rw w.tasks-is (PutsVisits-own v before x old (reverse c.loop-lit.tasks.items) (omega (arith, w.if-variable-own.false, c.variable.ensures.value)) c.loop-lit.invariant)
    ])
