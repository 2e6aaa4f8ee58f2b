use Rattle.std.proofs.Common.{◌≡◌, subst}
use Rattle.std.specs.Prelude.{IfOk, IfSome}
use Rattle.qv_cnf.specs.Refutation.{Standing}
use Rattle.qv_cert.specs.Lines.{all_lines}
use Rattle.qv_lrat.specs.Judging.{judgement_of}
use Rattle.qv_lrat.specs.Verdict.{judged_lines}
use Rattle.qv_lrat.proofs.checking.judge_beside.Goals as goal

pub returns-clause-judged : goal.returns-clause-judged
returns-clause-judged g c =
    subst (λ (s : Standing). IfOk c.judge.result (λ end. IfSome (g.C.Source.left c.args.proof.now) (λ bytes. judged_lines s 1 (all_lines bytes) ≡ judgement_of end)))
    c.in_ok-checker.ensures c.judge.ensures.judged
