use Rattle.std.proofs.Common.{◌∙◌, ap}
use Rattle.qv_io.specs.MemSource.{MemSourceState}
use Rattle.qv_meter.specs.Records.{records_of}
use Rattle.qv_shell_follow.specs.Ending.{run_status}
use Rattle.qv_shell.proofs.Benching.{defaults-lawful, on-error, run-solved, run-starts, starts-none}
use Rattle.qv_shell.proofs.bench.solved.Goals as goal

pub solve-requires : goal.solve-requires
solve-requires c = defaults-lawful

pub returns-in-Ok-clause-solved : goal.returns-in-Ok-clause-solved
returns-in-Ok-clause-solved c =
    run-solved c.new-source.result.left c.args.cert.now.held c.solve.new.cert.held c.requires c.new-source.result c.solve.new.script
    (records_of c.args.meter.now) (records_of c.solve.new.meter) c.args.text.now (ap (λ (s : MemSourceState). s.left) c.new-source.ensures ∙ c.in_ok-bytes.ensures.items)
    c.in-Ok.followed c.in-Ok.ensures.ends c.in-Ok.ensures.run.0 c.in-Ok.ensures.run.1

pub returns-clause-records : goal.returns-clause-records
returns-clause-records c =
    run-starts c.new-source.result.left c.args.cert.now.held c.solve.new.cert.held c.requires c.new-source.result c.solve.new.script
    (records_of c.args.meter.now) (records_of c.solve.new.meter) (run_status c.solve.result) c.solve.ensures.run.0

pub returns-in_err-bytes-clause-records : goal.returns-in_err-bytes-clause-records
returns-in_err-bytes-clause-records c = on-error c.from_residual.result (starts-none (records_of c.args.meter.now))
