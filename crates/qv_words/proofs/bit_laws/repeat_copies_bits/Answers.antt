use Rattle.qv_words.proofs.MovedBits.{repeat_bits}
use Rattle.qv_words.proofs.bit_laws.repeat_copies_bits.Goals as goal

pub returns : goal.returns
returns _ = repeat_bits
