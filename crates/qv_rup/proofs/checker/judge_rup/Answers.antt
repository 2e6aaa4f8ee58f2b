use Rattle.std.proofs.Common.{◌≡◌, ℕ, [], map, Option, Result, Err, Ok, sym, subst, ap, ◌∙◌}
use Rattle.std.proofs.lemmas.Result.{err_from_is_err_and}
use Rattle.qv_cnf.specs.Literal.{negated}
use Rattle.qv_cnf.specs.Rat.{judged_along}
use Rattle.qv_cnf.specs.Refutation.{Judgement, judged_clause}
use Rattle.qv_rup.specs.Judged.{IsFirstPart, IsJudged}
use Rattle.qv_rup.specs.declared.faults.StepFault.{StepFault}
use Rattle.qv_rup.proofs.Parted.{along-none}
use Rattle.qv_rup.proofs.checker.judge_rup.Goals as goal

pub returns-in_err-judge_first : goal.returns-in_err-judge_first
returns-in_err-judge_first c =
    let live = c.args.clauses.now.live in
    let hints = c.args.hints.now in
    let same : judged_along live [] hints 1 c.mark_negations.new.marks ≡ judged_clause live c.args.lits.now hints = ap (judged_along live [] hints 1) c.in_ok-mark_negations.ensures ∙ along-none live hints 1 (map negated c.args.lits.now) in
    let p = err_from_is_err_and c.from_residual-in_err-judge_first.result c.from_residual-in_err-judge_first.ensures.1 in
    let is : c.from_residual-in_err-judge_first.result ≡ Err c.in_err-judge_first.field-0.0 = let q = p.1 in let r = p.2 in cc in
    subst (λ (r : Result (Unit {0}) StepFault). IsJudged r (judged_clause live c.args.lits.now hints)) (sym is)
    (subst (λ (j : Judgement). IsJudged (Err c.in_err-judge_first.field-0.0) j) same (c.in_err-judge_first.ensures []))

pub returns-in-None : goal.returns-in-None
returns-in-None c =
    let live = c.args.clauses.now.live in
    let hints = c.args.hints.now in
    let same : judged_along live [] hints 1 c.mark_negations.new.marks ≡ judged_clause live c.args.lits.now hints = ap (judged_along live [] hints 1) c.in_ok-mark_negations.ensures ∙ along-none live hints 1 (map negated c.args.lits.now) in
    let first = subst (λ (o : Option ℕ). IsFirstPart live [] hints c.judge_first.new.marks (Ok o) (judged_along live [] hints 1 c.mark_negations.new.marks)) c.in-None.is (c.in_ok-judge_first.ensures []) in
    sym same ∙ first

pub returns-in-Some : goal.returns-in-Some
returns-in-Some c =
    let live = c.args.clauses.now.live in
    let hints = c.args.hints.now in
    let same : judged_along live [] hints 1 c.mark_negations.new.marks ≡ judged_clause live c.args.lits.now hints = ap (judged_along live [] hints 1) c.in_ok-mark_negations.ensures ∙ along-none live hints 1 (map negated c.args.lits.now) in
    let first = subst (λ (o : Option ℕ). IsFirstPart live [] hints c.judge_first.new.marks (Ok o) (judged_along live [] hints 1 c.mark_negations.new.marks)) c.in-Some.is (c.in_ok-judge_first.ensures []) in
    subst (λ (j : Judgement). IsJudged c.refuse.result j) (sym first ∙ same) (c.refuse.ensures live c.judge_first.new.marks)
