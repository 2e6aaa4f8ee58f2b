use Rattle.std.proofs.Common.{ap}
use Rattle.qv_io.specs.MemSource.{MemSourceState}
use Rattle.qv_gen.specs.TextSink.{TextSinkState}
use Rattle.qv_shell.proofs.Benching.{verdict-text}
use Rattle.qv_shell.proofs.bench.verdict_text.Goals as goal

pub returns-in-Ok : goal.returns-in-Ok
returns-in-Ok c =
    let left = λ (s : MemSourceState). s.left in
    verdict-text c.new-script.result.left c.new-cert.result.left c.args.script.items c.args.cert.items c.new-out.result.held c.verify.new.out.held c.into_bytes.result.items
    (ap left c.new-script.ensures) (ap left c.new-cert.ensures) (ap (λ (s : TextSinkState). s.held) c.new-out.ensures) c.into_bytes.ensures c.in-Ok.ensures.done.1
