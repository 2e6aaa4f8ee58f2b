use Rattle.std.proofs.Common.{sym, ◌∙◌}
use Rattle.qv_cert.proofs.ReadingLemmas.{named_operator}
use Rattle.qv_cert.proofs.reading.operator_named.Goals as goal

pub returns : goal.returns
returns c = c.ok.ensures.value ∙ sym (named_operator c.args.name.now c.args.indices.now c.op_named.result c.op_named.ensures.named)
