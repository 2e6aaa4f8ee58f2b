use Rattle.qv_text.proofs.Moves.{looks_at_end}
use Rattle.qv_text.proofs.scan.look.Goals as goal

pub returns-in-Open : goal.returns-in-Open
returns-in-Open c =
    looks_at_end c.args.bytes.now c.args.mode c.args.from c.args.finished c.in-Open.mode c.ending.result c.if-finished.true c.ending.ensures c.in-Open.ensures.1
