use Rattle.std.proofs.Common.{◌∙◌, ◌≤◌, Err, ℕ, ap, sym, subst, arith}
use Rattle.qv_meter.specs.Records.{records_of}
use Rattle.qv_meter.specs.Views.{limits_of}
use Rattle.qv_shell.specs.Requests.{limits_with}
use Rattle.qv_shell.proofs.Runs.{run-done, run-halted, unread-script, unwritten-run, unhalted}
use Rattle.qv_shell.proofs.solving.solve.Goals as goal

pub returns-in-Ok-clause-run : goal.returns-in-Ok-clause-run
returns-in-Ok-clause-run g c =
    run-done c.args.settings.places g.S.Source.read_gives (limits_of c.limits_for.result) (limits_with c.args.settings.budgets) c.limits_for.ensures.same (g.S.Source.left c.args.script.now) c.args.script.now c.solve.new.script
    (g.O.Sink.held c.args.out.now) (g.O.Sink.held c.solve.new.out) (g.P.Sink.held c.args.cert.now) (g.P.Sink.held c.solve.new.cert) (records_of c.args.meter.now) (records_of c.solve.new.meter)
    c.in-Ok.followed.ending c.ending_status.result c.ending_status.ensures c.in-Ok.ensures.ends c.in-Ok.ensures.run.0

pub returns-in-Ok-clause-read : goal.returns-in-Ok-clause-read
returns-in-Ok-clause-read g c three =
    let early = c.in-Ok.ensures.ends in
    let status = c.ending_status.ensures in
    absurd (omega (arith, early, status, three))

pub returns-in-Ok-clause-write : goal.returns-in-Ok-clause-write
returns-in-Ok-clause-write g c four =
    let early = c.in-Ok.ensures.ends in
    let status = c.ending_status.ensures in
    absurd (omega (arith, early, status, four))

pub returns-in-Ok-clause-complete : goal.returns-in-Ok-clause-complete
returns-in-Ok-clause-complete g c _ _ _ _ _ = subst (λ (n : ℕ). n ≤ 1) (sym c.ending_status.ensures) c.in-Ok.ensures.ends

pub returns-in-Err-clause-run : goal.returns-in-Err-clause-run
returns-in-Err-clause-run g c =
    run-halted c.args.settings.places g.S.Source.read_gives (limits_of c.limits_for.result) (limits_with c.args.settings.budgets) c.limits_for.ensures.same (g.S.Source.left c.args.script.now) c.args.script.now c.solve.new.script
    (g.O.Sink.held c.args.out.now) (g.O.Sink.held c.solve.new.out) (g.P.Sink.held c.args.cert.now) (g.P.Sink.held c.solve.new.cert) (records_of c.args.meter.now) (records_of c.solve.new.meter)
    c.in-Err.halt c.halt_status.result c.halt_status.ensures c.in-Err.ensures.run.0

pub returns-in-Err-clause-read : goal.returns-in-Err-clause-read
returns-in-Err-clause-read g c three =
    unread-script c.in-Err.halt (λ e. c.in-Err.ensures.read (ap Err e)) (sym c.halt_status.ensures ∙ three)

pub returns-in-Err-clause-write : goal.returns-in-Err-clause-write
returns-in-Err-clause-write g c four =
    unwritten-run c.in-Err.halt (λ e. c.in-Err.ensures.write (ap Err e)) (sym c.halt_status.ensures ∙ four)

pub returns-in-Err-clause-complete : goal.returns-in-Err-clause-complete
returns-in-Err-clause-complete g c unread unlimited unwritten unkept memory =
    let status = c.halt_status.ensures in
    subst (λ (n : ℕ). n ≤ 1) (sym status)
    (unhalted c.in-Err.halt (λ e. c.in-Err.ensures.read (ap Err e)) (λ e. c.in-Err.ensures.write (ap Err e)) unread unlimited unwritten unkept (λ five. memory (status ∙ five)))
