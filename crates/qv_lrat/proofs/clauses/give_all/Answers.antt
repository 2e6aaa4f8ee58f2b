use Rattle.std.proofs.Common.{List, ◌+◌, ◌∙◌, sym, ap, take, arith}
use Rattle.std.proofs.lemmas.List.{take_all}
use Rattle.qv_cnf.specs.Literal.{Literal}
use Rattle.qv_cnf.specs.Refutation.{standing_at}
use Rattle.qv_cert_formulas.specs.Numbers.{under_ids}
use Rattle.qv_lrat.proofs.Numbered.{ids-more}
use Rattle.qv_lrat.proofs.clauses.give_all.Goals as goal

pub clauses-init : goal.clauses-init
clauses-init c = c.requires

pub clauses-preserved : goal.clauses-preserved
clauses-preserved c =
    let cs = c.args.clauses.now in
    c.in-Ok.ensures.standing (under_ids 1 (take c.clauses.at cs)) c.clauses.invariant
    ∙ ap standing_at (sym (ids-more 1 c.clauses.at (c.clauses.at + 1) cs c.get.result.now (omega arith) c.get.ensures))

pub returns : goal.returns
returns c =
    let cs = c.args.clauses.now in
    c.clauses.invariant ∙ ap (λ (clauses : List (List Literal)). standing_at (under_ids 1 clauses)) (take_all c.clauses.at cs (omega (arith, c.clauses-test.false)))
