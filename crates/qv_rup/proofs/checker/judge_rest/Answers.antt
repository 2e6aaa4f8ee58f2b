use Rattle.std.proofs.Common.{◌≡◌, ◌+◌, List, length, drop, sym, subst, ◌∙◌}
use Rattle.std.proofs.lemmas.Bool.{eqb-true}
use Rattle.std.proofs.lemmas.List.{nil_from_length}
use Rattle.qv_cnf.specs.Literal.{Literal}
use Rattle.qv_cnf.specs.Rat.{judged_rat}
use Rattle.qv_rup.specs.Judged.{IsJudged}
use Rattle.qv_rup.proofs.checker.judge_rest.Goals as goal

pub returns-then-is_empty-clause-judged : goal.returns-then-is_empty-clause-judged
returns-then-is_empty-clause-judged c =
    let lits = c.args.lits.now in
    let none : length lits ≡ 0 = eqb-true (length lits) 0 (sym c.is_empty.ensures ∙ c.if-is_empty.true) in
    subst (λ (ls : List Literal). IsJudged c.refuse.result (judged_rat c.args.clauses.now.live ls c.args.marks.now (drop c.args.place c.args.hints.now) (c.args.place + 1))) (sym (nil_from_length lits none))
    (c.refuse.ensures c.args.clauses.now.live c.args.marks.now)
