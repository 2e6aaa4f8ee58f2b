use Rattle.std.proofs.Common.{◌∙◌, ap, sym}
use Rattle.std.proofs.lemmas.Result.{IfOk-weaker}
use Rattle.qv_meter.specs.Records.{records_of}
use Rattle.qv_gen.specs.TextSink.{TextSinkState}
use Rattle.qv_shell.proofs.Benching.{benched, on-error, solved-so, starts-its, starts-none, verdict-long}
use Rattle.qv_shell.proofs.bench.benched.Goals as goal

pub solved-requires : goal.solved-requires
solved-requires c = ap (λ (s : TextSinkState). s.held) c.new-cert.ensures

pub returns-in_err-text-clause-records : goal.returns-in_err-text-clause-records
returns-in_err-text-clause-records c = on-error c.from_residual.result (starts-none (records_of c.args.meter.now))

pub returns-in_err-tally-clause-records : goal.returns-in_err-tally-clause-records
returns-in_err-tally-clause-records c = on-error c.from_residual-in_err-tally.result c.in_err-tally.ensures.records

pub returns-in_err-verdict-clause-records : goal.returns-in_err-verdict-clause-records
returns-in_err-verdict-clause-records c =
    on-error c.from_residual-in_err-verdict.result
    (starts-its c.deref.result.now c.solved.new.cert.held (records_of c.args.meter.now) (records_of c.solved.new.meter) c.in_ok-tally.tally c.in_ok-tally.ensures.solved)

pub counted-requires : goal.counted-requires
counted-requires c =
    let before = records_of c.args.meter.now in
    let after = records_of c.solved.new.meter in
    let script = c.in_ok-text.text.items in
    let cert = c.into_bytes.result.items in
    let tally = c.in_ok-tally.tally in
    let so = solved-so c.deref.result.now script c.solved.new.cert.held cert before after tally c.deref.ensures.value (sym c.into_bytes.ensures) c.in_ok-tally.ensures.solved in
    verdict-long script cert c.deref-2.result.now before after tally so (c.deref-2.ensures.value ∙ c.in_ok-verdict.ensures)

pub returns-clause-bench : goal.returns-clause-bench
returns-clause-bench c =
    let before = records_of c.args.meter.now in
    let after = records_of c.solved.new.meter in
    let script = c.in_ok-text.text.items in
    let cert = c.into_bytes.result.items in
    let tally = c.in_ok-tally.tally in
    let so = solved-so c.deref.result.now script c.solved.new.cert.held cert before after tally c.deref.ensures.value (sym c.into_bytes.ensures) c.in_ok-tally.ensures.solved in
    IfOk-weaker c.counted.result _ _
    (λ text printed. benched c.args.number script cert c.deref-2.result.now text.items before after tally c.in_ok-text.ensures so (c.deref-2.ensures.value ∙ c.in_ok-verdict.ensures) printed)
    c.counted.ensures

pub returns-clause-records : goal.returns-clause-records
returns-clause-records c =
    on-error c.counted.result
    (starts-its c.deref.result.now c.solved.new.cert.held (records_of c.args.meter.now) (records_of c.solved.new.meter) c.in_ok-tally.tally c.in_ok-tally.ensures.solved)
