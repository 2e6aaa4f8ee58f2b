use Rattle.std.proofs.lemmas.Nat.{xor_lt}
use Rattle.qv_words.proofs.bits.difference.Goals as goal

pub returns-clause-below : goal.returns-clause-below
returns-clause-below c = xor_lt c.args.width c.args.a c.args.b c.requires.first c.requires.second
