use Rattle.std.proofs.lemmas.Nat.{or_lt}
use Rattle.qv_words.proofs.bits.disjunction.Goals as goal

pub returns-clause-below : goal.returns-clause-below
returns-clause-below c = or_lt c.args.width c.args.a c.args.b c.requires.first c.requires.second
