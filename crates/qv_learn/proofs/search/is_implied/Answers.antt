use Rattle.std.specs.Bool.{OnTrue}
use Rattle.std.proofs.Common.{◌≡◌, ◌⊎◌, Bool, ◌+◌, [], ◌∷◌, ◌++◌, true, take, inl, inr, ap, sym, subst, ◌∙◌, arith}
use Rattle.qv_cnf.specs.Literal.{Literal}
use Rattle.qv_cnf.specs.Refutation.{among}
use Rattle.qv_learn.proofs.Clauses.{among-push_cases}
use Rattle.qv_learn.proofs.Turning.{taken}
use Rattle.qv_learn.specs.Learning.{IsFalseAtZero}
use Rattle.qv_learn.specs.Marking.{marked}
use Rattle.qv_learn.proofs.search.is_implied.Goals as goal
use Rattle.qv_learn.proofs.search.is_implied.Goals.{else-variable-via-then-variable+else-not-needs_none, else-variable-via-else-variable}

pub loop-other-preserved : goal.loop-other-preserved
loop-other-preserved c m there differ =
    let x = c.other-item.result in
    let lits = c.in-Some.lits.now in
    let before = take c.loop-other.other-index lits in
    let more : take (c.loop-other.other-index + 1) lits ≡ before ++ x ∷ [] = taken lits c.loop-other.other-index x c.loop-other-test.true c.other-item.is in
    let P : Literal → Type 0 = λ l. (marked c.args.between.now l.variable ≡ true) ⊎ IsFalseAtZero c.args.trail.now.entries l in
    elim (among-push_cases before x m (subst (λ ls. among ls m ≡ true) more there)) [
      | inl old ↦ c.loop-other.invariant m old differ
      | inr same ↦ subst P (sym same) (elim c.else-variable.branch [
        | else-variable-via-then-variable+else-not-needs_none w ↦ subst (λ (b : Bool). OnTrue b (P x)) w.if-not-needs_none.false w.needs_none.ensures.none
        | else-variable-via-else-variable w ↦ absurd (differ (ap (λ (l : Literal). l.variable) same ∙ omega (arith, w.if-variable.false, c.variable.ensures.value)))
      ])
    ]
