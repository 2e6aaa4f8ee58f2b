use Rattle.std.proofs.Common.{◌<◌, arith}
use Rattle.qv_choose_clauses.proofs.ClauseLaws.{no-negation}
use Rattle.qv_choose_clauses.proofs.clauses.negates.Goals as goal

pub returns-in-len2-up : goal.returns-in-len2-up
returns-in-len2-up c = no-negation c.args.store.now c.args.op c.args.kids.now c.args.level (omega (arith, c.in-len2-up.len_at_least))
