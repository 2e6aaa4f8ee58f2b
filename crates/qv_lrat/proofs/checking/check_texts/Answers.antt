use Rattle.std.proofs.Common.{inl, inr}
use Rattle.std.proofs.lemmas.Result.{err_from_is_err_and}
use Rattle.qv_lrat.proofs.Checked.{beside-clauses, beside-fault}
use Rattle.qv_lrat.proofs.Limits.{limit-dimacs, same-halt}
use Rattle.qv_lrat.proofs.checking.check_texts.Goals as goal

pub returns-in_ok-judge_beside-in-Ok-clause-verdict : goal.returns-in_ok-judge_beside-in-Ok-clause-verdict
returns-in_ok-judge_beside-in-Ok-clause-verdict g c =
    beside-clauses c.in-Ok.dimacs.clauses (g.S.Source.left c.args.cnf.now) (g.C.Source.left c.args.proof.now) c.in_ok-judge_beside-in-Ok.field-0 c.in-Ok.ensures.read.told c.in_ok-judge_beside-in-Ok.ensures.judged

pub returns-in-Err-At-clause-verdict : goal.returns-in-Err-At-clause-verdict
returns-in-Err-At-clause-verdict g c =
    let says = rw c.in-Err-At.field-0-is at c.in-Err-At.ensures.fault in
    rw c.in-Err-At.field-0-is
    (beside-fault c.in-Err-At.place c.in-Err-At.kind (g.S.Source.left c.args.cnf.now) (g.C.Source.left c.args.proof.now) says.told)

pub returns-in-Err-ReadFault-clause-read : goal.returns-in-Err-ReadFault-clause-read
returns-in-Err-ReadFault-clause-read g c _ =
    let fails = rw c.in-Err-ReadFault.field-0-is at c.in-Err-ReadFault.ensures.fault in
    inl fails.0

pub returns-in-Err-ReadLimit-clause-limit : goal.returns-in-Err-ReadLimit-clause-limit
returns-in-Err-ReadLimit-clause-limit g c _ =
    let meets = rw c.in-Err-ReadLimit.field-0-is at c.in-Err-ReadLimit.ensures.fault in
    inl (limit-dimacs g.S.Source.read_gives g.S.Source.left c.args.cnf.now c.read_dimacs.new.source meets)

pub returns-in_err-judge_beside-in-Ok-clause-read : goal.returns-in_err-judge_beside-in-Ok-clause-read
returns-in_err-judge_beside-in-Ok-clause-read g c =
    let p = err_from_is_err_and c.from_residual.result c.from_residual.ensures.1 in
    rw (p.1, p.2) (λ failed. inr (c.in_err-judge_beside-in-Ok.ensures.read (same-halt _ _ failed)))

pub returns-in_err-judge_beside-in-Ok-clause-limit : goal.returns-in_err-judge_beside-in-Ok-clause-limit
returns-in_err-judge_beside-in-Ok-clause-limit g c =
    let p = err_from_is_err_and c.from_residual.result c.from_residual.ensures.1 in
    rw (p.1, p.2) (λ met. inr (c.in_err-judge_beside-in-Ok.ensures.limit (same-halt _ _ met)))

pub returns-in_err-judge_beside-in-Ok-clause-no_write : goal.returns-in_err-judge_beside-in-Ok-clause-no_write
returns-in_err-judge_beside-in-Ok-clause-no_write g c =
    let p = err_from_is_err_and c.from_residual.result c.from_residual.ensures.1 in
    rw (p.1, p.2) (λ wrote. c.in_err-judge_beside-in-Ok.ensures.no_write (same-halt _ _ wrote))
