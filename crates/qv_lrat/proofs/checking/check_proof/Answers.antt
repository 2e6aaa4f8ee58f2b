use Rattle.std.proofs.Common.{refl, sym, ◌∙◌}
use Rattle.std.proofs.lemmas.Result.{err_from_is_err_and}
use Rattle.qv_lrat.specs.Judging.{ending_of}
use Rattle.qv_lrat.proofs.Checked.{none-written, part-written, unread-fault, whole-written}
use Rattle.qv_lrat.proofs.Limits.{same-halt}
use Rattle.qv_lrat.proofs.Unfinished.{nothing-short}
use Rattle.qv_lrat.proofs.checking.check_proof.Goals as goal

pub returns-clause-done : goal.returns-clause-done
returns-clause-done g c =
    rw c.ending_of.ensures
    (whole-written c.in_ok-checked.checked (g.S.Source.left c.args.cnf.now) (g.C.Source.left c.args.proof.now) (g.O.Sink.held c.args.out.now) (g.O.Sink.held c.put_all.new.sink) c.deref.result.now
    c.in_ok-checked.ensures.verdict (c.deref.ensures.value ∙ c.in_ok-text.ensures) c.in_ok-put_all.ensures.ok)

pub returns-clause-unread : goal.returns-clause-unread
returns-clause-unread g c faulty = unread-fault c.in_ok-checked.checked _ c.in_ok-checked.ensures.unread (sym c.ending_of.ensures ∙ faulty)

pub returns-in_err-checked-clause-cut : goal.returns-in_err-checked-clause-cut
returns-in_err-checked-clause-cut g c =
    let p = err_from_is_err_and c.from_residual.result c.from_residual.ensures.1 in
    rw p.1 (none-written (g.S.Source.left c.args.cnf.now) (g.C.Source.left c.args.proof.now) (g.O.Sink.held c.args.out.now))

pub returns-in_err-text-clause-cut : goal.returns-in_err-text-clause-cut
returns-in_err-text-clause-cut g c =
    let p = err_from_is_err_and c.from_residual-in_err-text.result c.from_residual-in_err-text.ensures.1 in
    rw p.1 (none-written (g.S.Source.left c.args.cnf.now) (g.C.Source.left c.args.proof.now) (g.O.Sink.held c.args.out.now))

pub returns-in_err-put_all-clause-cut : goal.returns-in_err-put_all-clause-cut
returns-in_err-put_all-clause-cut g c =
    let p = err_from_is_err_and c.from_residual-in_err-put_all.result c.from_residual-in_err-put_all.ensures.1 in
    rw p.1
    (part-written c.in_ok-checked.checked (g.S.Source.left c.args.cnf.now) (g.C.Source.left c.args.proof.now) (g.O.Sink.held c.args.out.now) (g.O.Sink.held c.put_all.new.sink) c.deref.result.now
    c.in_ok-checked.ensures.verdict (c.deref.ensures.value ∙ c.in_ok-text.ensures) c.in_err-put_all.ensures.part)

pub returns-in_err-checked-clause-short : goal.returns-in_err-checked-clause-short
returns-in_err-checked-clause-short g c _ = nothing-short (g.S.Source.left c.args.cnf.now) (g.C.Source.left c.args.proof.now) (g.O.Sink.held c.args.out.now)

pub returns-in_err-text-clause-short : goal.returns-in_err-text-clause-short
returns-in_err-text-clause-short g c _ = nothing-short (g.S.Source.left c.args.cnf.now) (g.C.Source.left c.args.proof.now) (g.O.Sink.held c.args.out.now)

pub returns-in_err-checked-clause-read : goal.returns-in_err-checked-clause-read
returns-in_err-checked-clause-read g c =
    let p = err_from_is_err_and c.from_residual.result c.from_residual.ensures.1 in
    rw (p.1, p.2) (λ failed. c.in_err-checked.ensures.read (same-halt _ _ failed))

pub returns-in_err-checked-clause-limit : goal.returns-in_err-checked-clause-limit
returns-in_err-checked-clause-limit g c =
    let p = err_from_is_err_and c.from_residual.result c.from_residual.ensures.1 in
    rw (p.1, p.2) (λ met. c.in_err-checked.ensures.limit (same-halt _ _ met))

pub returns-in_err-checked-clause-write : goal.returns-in_err-checked-clause-write
returns-in_err-checked-clause-write g c =
    let p = err_from_is_err_and c.from_residual.result c.from_residual.ensures.1 in
    rw (p.1, p.2) (λ wrote. absurd (c.in_err-checked.ensures.no_write (same-halt _ _ wrote)))
