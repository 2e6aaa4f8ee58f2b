use Rattle.std.proofs.Common.{arith}
use Rattle.qv_words.proofs.InverseRows.{below_pow}
use Rattle.qv_inverse.proofs.building.amount.Goals as goal

pub number-requires-clause-fits : goal.number-requires-clause-fits
number-requires-clause-fits c = omega (arith, below_pow c.args.width)
