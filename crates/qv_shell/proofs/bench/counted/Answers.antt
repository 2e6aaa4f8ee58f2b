use Rattle.std.proofs.Common.{arith, refl}
use Rattle.std.proofs.lemmas.Grind.{common_steps}
use Rattle.std.proofs.lemmas.Result.{IfOk-weaker}
use Rattle.qv_shell.specs.Bench.{counts_of}
use Rattle.qv_shell.proofs.Counted.{counted-text}
use Rattle.qv_shell.proofs.bench.counted.Goals as goal

pub returns : goal.returns
returns c =
    IfOk-weaker c.counts_text.result _ _
    (λ text printed. counted-text c.args.tally (counts_of c.args.tally) text.items _ c.args.verdict.now refl printed (grind (arith, common_steps)))
    c.counts_text.ensures
