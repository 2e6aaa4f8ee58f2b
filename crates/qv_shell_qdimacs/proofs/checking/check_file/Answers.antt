use Rattle.std.proofs.Common.{List, ℕ, subst}
use Rattle.std.proofs.lemmas.Result.{err_from_is_err_and}
use Rattle.qv_io.specs.Sink.{Appends, AppendsPart}
use Rattle.qv_shell_qdimacs.proofs.Whole.{none-short, none-written, part-written, whole-written}
use Rattle.qv_shell_qdimacs.proofs.Written.{same-halt}
use Rattle.qv_shell_qdimacs.proofs.checking.check_file.Goals as goal

pub returns-clause-done : goal.returns-clause-done
returns-clause-done g c =
    whole-written c.args.places c.in_ok-judged.judged (g.S.Source.left c.args.file.now) (g.C.Source.left c.args.cert.now) (g.O.Sink.held c.args.out.now) (g.O.Sink.held c.put_all.new.sink) c.in_ok-judged.ensures.judged
    (subst (λ (t : List ℕ). Appends (g.O.Sink.held c.args.out.now) (g.O.Sink.held c.put_all.new.sink) t) c.deref.ensures.value c.in_ok-put_all.ensures.ok)

pub returns-in_err-reader-clause-cut : goal.returns-in_err-reader-clause-cut
returns-in_err-reader-clause-cut g c =
    let p = err_from_is_err_and c.from_residual.result c.from_residual.ensures.1 in
    rw p.1 (none-written c.args.places (g.S.Source.left c.args.file.now) (g.C.Source.left c.args.cert.now) (g.O.Sink.held c.args.out.now))

pub returns-in_err-judged-clause-cut : goal.returns-in_err-judged-clause-cut
returns-in_err-judged-clause-cut g c =
    let p = err_from_is_err_and c.from_residual-in_err-judged.result c.from_residual-in_err-judged.ensures.1 in
    rw p.1 (none-written c.args.places (g.S.Source.left c.args.file.now) (g.C.Source.left c.args.cert.now) (g.O.Sink.held c.args.out.now))

pub returns-in_err-put_all-clause-cut : goal.returns-in_err-put_all-clause-cut
returns-in_err-put_all-clause-cut g c =
    let p = err_from_is_err_and c.from_residual-in_err-put_all.result c.from_residual-in_err-put_all.ensures.1 in
    rw p.1
    (part-written c.args.places c.in_ok-judged.judged (g.S.Source.left c.args.file.now) (g.C.Source.left c.args.cert.now) (g.O.Sink.held c.args.out.now) (g.O.Sink.held c.put_all.new.sink) c.in_ok-judged.ensures.judged
    (subst (λ (t : List ℕ). AppendsPart (g.O.Sink.held c.args.out.now) (g.O.Sink.held c.put_all.new.sink) t) c.deref.ensures.value c.in_err-put_all.ensures.part))

pub returns-in_err-reader-clause-short : goal.returns-in_err-reader-clause-short
returns-in_err-reader-clause-short g c _ = none-short c.args.places (g.S.Source.left c.args.file.now) (g.C.Source.left c.args.cert.now) (g.O.Sink.held c.args.out.now)

pub returns-in_err-judged-clause-short : goal.returns-in_err-judged-clause-short
returns-in_err-judged-clause-short g c _ = none-short c.args.places (g.S.Source.left c.args.file.now) (g.C.Source.left c.args.cert.now) (g.O.Sink.held c.args.out.now)

pub returns-in_err-judged-clause-read : goal.returns-in_err-judged-clause-read
returns-in_err-judged-clause-read g c =
    let p = err_from_is_err_and c.from_residual-in_err-judged.result c.from_residual-in_err-judged.ensures.1 in
    rw (p.1, p.2) (λ failed. c.in_err-judged.ensures.read (same-halt _ _ failed))

pub returns-in_err-judged-clause-limit : goal.returns-in_err-judged-clause-limit
returns-in_err-judged-clause-limit g c =
    let p = err_from_is_err_and c.from_residual-in_err-judged.result c.from_residual-in_err-judged.ensures.1 in
    rw (p.1, p.2) (λ met. c.in_err-judged.ensures.limit (same-halt _ _ met))

pub returns-in_err-judged-clause-write : goal.returns-in_err-judged-clause-write
returns-in_err-judged-clause-write g c =
    let p = err_from_is_err_and c.from_residual-in_err-judged.result c.from_residual-in_err-judged.ensures.1 in
    rw (p.1, p.2) (λ wrote. absurd (c.in_err-judged.ensures.no_write (same-halt _ _ wrote)))
