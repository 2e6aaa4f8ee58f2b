use Rattle.std.proofs.Common.{◌≡◌, inl, refl}
use Rattle.qv_io.proofs.SinkLemmas.{Appends-nothing}
use Rattle.qv_meter.specs.Records.{records_of}
use Rattle.qv_meter.specs.Views.{limits_of}
use Rattle.qv_script_transcript.specs.Certificates.{checks_of}
use Rattle.qv_shell_command.specs.declared.ending.Halt.TheVariants as halt
use Rattle.qv_shell_follow.specs.Ending.{run_status}
use Rattle.qv_shell_follow.proofs.ReadOn.{err-run, err-tallied}
use Rattle.qv_shell_follow.proofs.Solving.{nothing-solved}
use Rattle.qv_shell_follow.proofs.following.solve.Goals as goal

-- there is no memory for a reader
pub returns-in_err-reader-clause-run : goal.returns-in_err-reader-clause-run
returns-in_err-reader-clause-run g c =
    let left = g.S.Source.left in
    let kept = g.P.Sink.held in
    let r = c.from_residual.result in
    let is = c.from_residual.ensures.1 in
    let status : run_status r ≡ 5 = err-run r halt.NoMemory is in
    let run = nothing-solved c.args.places g.row.S.Denot g.S.Source.read_gives (limits_of c.args.limits) c.args.script.now (left c.args.script.now) (g.O.Sink.held c.args.out.now) (kept c.args.cert.now) (records_of c.args.meter.now)
    (kept c.args.cert.now) 0 (run_status r) (Appends-nothing (kept c.args.cert.now)) (inl (status, refl)) in
    (run, err-tallied r halt.NoMemory (checks_of run.checks) is)

pub follow-requires-clause-fresh : goal.follow-requires-clause-fresh
follow-requires-clause-fresh g c = c.in_ok-reader.ensures
