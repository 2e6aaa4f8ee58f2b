use Rattle.qv_words.proofs.Ranks.{too_many_words}
use Rattle.qv_words.proofs.op.apply.Goals as goal

pub unreachable-requires-in-len4-up : goal.unreachable-requires-in-len4-up
unreachable-requires-in-len4-up c = too_many_words c.args.op c.args.args.now c.in-len4-up.len_at_least c.requires
