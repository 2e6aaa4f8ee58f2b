use Rattle.std.proofs.Common.{◌<◌, arith}
use Rattle.qv_choose_clauses.proofs.SideLaws.{few-kids, many-kids}
use Rattle.qv_choose_clauses.proofs.sides.two_of.Goals as goal

pub returns-in-empty : goal.returns-in-empty
returns-in-empty c = few-kids c.args.both c.args.op c.args.kids.now (omega (arith, c.in-empty.len_below))

pub returns-in-len1 : goal.returns-in-len1
returns-in-len1 c = few-kids c.args.both c.args.op c.args.kids.now (omega (arith, c.in-len1.len_below))

pub returns-in-len3-up : goal.returns-in-len3-up
returns-in-len3-up c = many-kids c.args.both c.args.op c.args.kids.now (omega (arith, c.in-len3-up.len_at_least))
