use Rattle.std.proofs.Common.{◌∙◌, Err, ap, sym, subst}
use Rattle.qv_shell.specs.Checking.{IsEnd}
use Rattle.qv_shell.proofs.Checks.{ends-well, unread, unwritten, no-halt}
use Rattle.qv_shell.proofs.Listings.{listing-done, listing-halted}
use Rattle.qv_shell.proofs.clauses.clauses.Goals as goal

pub returns-in-Ok-clause-run : goal.returns-in-Ok-clause-run
returns-in-Ok-clause-run g c =
    listing-done c.args.places (g.S.Source.left c.args.script.now) (g.C.Source.left c.args.cert.now) (g.O.Sink.held c.args.out.now) (g.O.Sink.held c.clauses.new.out)
    c.in-Ok.ending c.ending_status.result c.ending_status.ensures c.in-Ok.ensures.done

pub returns-in-Ok-clause-complete : goal.returns-in-Ok-clause-complete
returns-in-Ok-clause-complete g c _ _ _ _ _ _ = subst IsEnd (sym c.ending_status.ensures) (ends-well c.in-Ok.ending)

pub returns-in-Err-clause-run : goal.returns-in-Err-clause-run
returns-in-Err-clause-run g c =
    listing-halted c.args.places (g.S.Source.left c.args.script.now) (g.C.Source.left c.args.cert.now) (g.O.Sink.held c.args.out.now) (g.O.Sink.held c.clauses.new.out)
    c.in-Err.halt c.halt_status.result c.halt_status.ensures c.in-Err.ensures.cut (λ e. c.in-Err.ensures.short (ap Err e))

pub returns-in-Err-clause-read : goal.returns-in-Err-clause-read
returns-in-Err-clause-read g c three =
    unread c.in-Err.halt (λ e. c.in-Err.ensures.read (ap Err e)) (λ e. c.in-Err.ensures.limit (ap Err e)) (sym c.halt_status.ensures ∙ three)

pub returns-in-Err-clause-write : goal.returns-in-Err-clause-write
returns-in-Err-clause-write g c four =
    unwritten c.in-Err.halt (λ e. c.in-Err.ensures.write (ap Err e)) (sym c.halt_status.ensures ∙ four)

pub returns-in-Err-clause-complete : goal.returns-in-Err-clause-complete
returns-in-Err-clause-complete g c script cert script_limit cert_limit out memory =
    let status = c.halt_status.ensures in
    subst IsEnd (sym status)
    (no-halt c.in-Err.halt (λ e. c.in-Err.ensures.read (ap Err e)) (λ e. c.in-Err.ensures.limit (ap Err e)) (λ e. c.in-Err.ensures.write (ap Err e))
    script cert script_limit cert_limit out (λ five. memory (status ∙ five)))
