use Rattle.std.proofs.Common.{◌≡◌, ap, ◌∙◌}
use Rattle.qv_check_script.specs.declared.ending.Halt.TheVariants as halt
use Rattle.qv_check_script.specs.Ending.{halt_status}
use Rattle.qv_meter.specs.Views.{limits_of}
use Rattle.qv_meter.specs.Records.{records_of}
use Rattle.qv_shell_qdimacs.specs.Ending.{run_status}
use Rattle.qv_shell_qdimacs.proofs.Solved.{err-run, halted-limit, halted-read, halted-write, header-cut, run-cut, run-done, run-halted}
use Rattle.qv_shell_qdimacs.proofs.solving.solve_file.Goals as goal

-- the first line is cut
pub returns-in_err-put_all-clause-run : goal.returns-in_err-put_all-clause-run
returns-in_err-put_all-clause-run g c =
    let r = c.from_residual.result in
    let status : run_status r ≡ 4 = err-run r halt.Write c.from_residual.ensures.1 in
    rw status
    (header-cut c.args.places g.S.Source.read_gives g.S.Source.left (limits_of c.args.limits) c.args.source.now (g.O.Sink.held c.args.out.now) (g.P.Sink.held c.args.cert.now) (records_of c.args.meter.now) (g.P.Sink.held c.put_all.new.sink)
    c.in_err-put_all.ensures.part)

-- there is no reply
pub returns-in_err-reply-clause-run : goal.returns-in_err-reply-clause-run
returns-in_err-reply-clause-run g c =
    let r = c.from_residual-in_err-reply.result in
    let h = c.in_err-reply.field-0.0 in
    let status : run_status r ≡ halt_status h = err-run r h c.from_residual-in_err-reply.ensures.1 in
    rw status
    (run-halted c.args.places g.S.Source.read_gives g.S.Source.left (limits_of c.args.limits) c.args.source.now (g.O.Sink.held c.args.out.now) (g.P.Sink.held c.args.cert.now) (records_of c.args.meter.now) c.reply_to.new.source (g.P.Sink.held c.put_all.new.sink)
    (records_of c.reply_to.new.meter) _ h c.in_ok-put_all.ensures.ok c.in_err-reply.ensures.halted)

pub returns-in_err-reply-clause-read : goal.returns-in_err-reply-clause-read
returns-in_err-reply-clause-read g c =
    halted-read g.S.Source.read_gives g.S.Source.left (limits_of c.args.limits) _ c.args.source.now c.reply_to.new.source (records_of c.args.meter.now) (records_of c.reply_to.new.meter) c.from_residual-in_err-reply.result c.in_err-reply.field-0.0
    c.from_residual-in_err-reply.ensures.1 c.in_err-reply.ensures.halted

pub returns-in_err-reply-clause-limit : goal.returns-in_err-reply-clause-limit
returns-in_err-reply-clause-limit g c =
    halted-limit g.S.Source.read_gives g.S.Source.left (limits_of c.args.limits) _ c.args.source.now c.reply_to.new.source (records_of c.args.meter.now) (records_of c.reply_to.new.meter) c.from_residual-in_err-reply.result c.in_err-reply.field-0.0
    c.from_residual-in_err-reply.ensures.1 c.in_err-reply.ensures.halted

pub returns-in_err-reply-clause-write : goal.returns-in_err-reply-clause-write
returns-in_err-reply-clause-write g c = λ wrote. absurd
    (halted-write g.S.Source.read_gives g.S.Source.left (limits_of c.args.limits) _ c.args.source.now c.reply_to.new.source (records_of c.args.meter.now) (records_of c.reply_to.new.meter) c.from_residual-in_err-reply.result c.in_err-reply.field-0.0
    c.from_residual-in_err-reply.ensures.1 c.in_err-reply.ensures.halted wrote)

-- a part of it is written
pub returns-in_err-write_reply-clause-run : goal.returns-in_err-write_reply-clause-run
returns-in_err-write_reply-clause-run g c =
    let r = c.from_residual-in_err-write_reply.result in
    let h = c.in_err-write_reply.field-0.0 in
    let write : h ≡ halt.Write = let same = c.in_err-write_reply.ensures.write.0 in cc in
    let status : run_status r ≡ 4 = err-run r h c.from_residual-in_err-write_reply.ensures.1 ∙ ap halt_status write in
    rw status
    (run-cut c.args.places g.S.Source.read_gives g.S.Source.left (limits_of c.args.limits) c.args.source.now (g.O.Sink.held c.args.out.now) (g.P.Sink.held c.args.cert.now) (records_of c.args.meter.now) c.reply_to.new.source (g.P.Sink.held c.put_all.new.sink)
    (records_of c.reply_to.new.meter) c.in_ok-reply.reply c.in_ok-put_all.ensures.ok c.in_ok-reply.ensures.reply (g.O.Sink.held c.write_reply.new.out) (g.P.Sink.held c.write_reply.new.cert) c.in_err-write_reply.ensures.cut)

-- all is
pub returns-clause-run : goal.returns-clause-run
returns-clause-run g c =
    run-done c.args.places g.S.Source.read_gives g.S.Source.left (limits_of c.args.limits) c.args.source.now (g.O.Sink.held c.args.out.now) (g.P.Sink.held c.args.cert.now) (records_of c.args.meter.now) c.reply_to.new.source (g.P.Sink.held c.put_all.new.sink)
    (records_of c.reply_to.new.meter) c.in_ok-reply.reply c.in_ok-put_all.ensures.ok c.in_ok-reply.ensures.reply (g.O.Sink.held c.write_reply.new.out) (g.P.Sink.held c.write_reply.new.cert) c.in_ok-write_reply.ensures.section c.in_ok-write_reply.ensures.text
