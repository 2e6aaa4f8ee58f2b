use Rattle.qv_words.proofs.MovedBits.{zero_bits, sign_bits}
use Rattle.qv_words.proofs.bit_laws.extensions_keep_bits.Goals as goal

pub returns-clause-zero : goal.returns-clause-zero
returns-clause-zero _ = zero_bits

pub returns-clause-sign : goal.returns-clause-sign
returns-clause-sign _ = sign_bits
