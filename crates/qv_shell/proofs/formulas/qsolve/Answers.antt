use Rattle.std.proofs.Common.{◌∙◌, ◌≤◌, Err, ℕ, ap, sym, subst, arith}
use Rattle.qv_meter.specs.Records.{records_of}
use Rattle.qv_meter.specs.Views.{limits_of}
use Rattle.qv_shell.specs.Requests.{limits_with}
use Rattle.qv_shell.proofs.Checks.{unread, unwritten}
use Rattle.qv_shell.proofs.Quantified.{answer-done, answer-halted, early-end, unanswered-yet}
use Rattle.qv_shell.proofs.formulas.qsolve.Goals as goal

pub returns-in-Ok-clause-run : goal.returns-in-Ok-clause-run
returns-in-Ok-clause-run g c =
    answer-done c.args.settings.places g.S.Source.read_gives g.S.Source.left (limits_of c.limits_for.result) (limits_with c.args.settings.budgets) c.limits_for.ensures.same c.args.file.now c.solve_file.new.source
    (g.O.Sink.held c.args.out.now) (g.O.Sink.held c.solve_file.new.out) (g.P.Sink.held c.args.cert.now) (g.P.Sink.held c.solve_file.new.cert) (records_of c.args.meter.now) (records_of c.solve_file.new.meter)
    c.in-Ok.ending c.answer_status.result c.answer_status.ensures c.in-Ok.ensures.run

pub returns-in-Ok-clause-read : goal.returns-in-Ok-clause-read
returns-in-Ok-clause-read g c three =
    let early = early-end c.in-Ok.ending in
    let status = c.answer_status.ensures in
    absurd (omega (arith, early, status, three))

pub returns-in-Ok-clause-write : goal.returns-in-Ok-clause-write
returns-in-Ok-clause-write g c four =
    let early = early-end c.in-Ok.ending in
    let status = c.answer_status.ensures in
    absurd (omega (arith, early, status, four))

pub returns-in-Ok-clause-complete : goal.returns-in-Ok-clause-complete
returns-in-Ok-clause-complete g c _ _ _ _ _ = subst (λ (n : ℕ). n ≤ 1) (sym c.answer_status.ensures) (early-end c.in-Ok.ending)

pub returns-in-Err-clause-run : goal.returns-in-Err-clause-run
returns-in-Err-clause-run g c =
    answer-halted c.args.settings.places g.S.Source.read_gives g.S.Source.left (limits_of c.limits_for.result) (limits_with c.args.settings.budgets) c.limits_for.ensures.same c.args.file.now c.solve_file.new.source
    (g.O.Sink.held c.args.out.now) (g.O.Sink.held c.solve_file.new.out) (g.P.Sink.held c.args.cert.now) (g.P.Sink.held c.solve_file.new.cert) (records_of c.args.meter.now) (records_of c.solve_file.new.meter)
    c.in-Err.halt c.halt_status.result c.halt_status.ensures c.in-Err.ensures.run

pub returns-in-Err-clause-read : goal.returns-in-Err-clause-read
returns-in-Err-clause-read g c three =
    unread c.in-Err.halt (λ e. c.in-Err.ensures.read (ap Err e)) (λ e. c.in-Err.ensures.limit (ap Err e)) (sym c.halt_status.ensures ∙ three)

pub returns-in-Err-clause-write : goal.returns-in-Err-clause-write
returns-in-Err-clause-write g c four =
    unwritten c.in-Err.halt (λ e. c.in-Err.ensures.write (ap Err e)) (sym c.halt_status.ensures ∙ four)

pub returns-in-Err-clause-complete : goal.returns-in-Err-clause-complete
returns-in-Err-clause-complete g c unread unlimited unwritten unkept memory =
    let status = c.halt_status.ensures in
    subst (λ (n : ℕ). n ≤ 1) (sym status)
    (unanswered-yet c.in-Err.halt (λ e. c.in-Err.ensures.read (ap Err e)) (λ e. c.in-Err.ensures.limit (ap Err e)) (λ e. c.in-Err.ensures.write (ap Err e))
    unread unlimited unwritten unkept (λ five. memory (status ∙ five)))
