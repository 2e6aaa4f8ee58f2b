use Rattle.qv_words.proofs.MovedBits.{left_bits, right_bits}
use Rattle.qv_words.proofs.bit_laws.rotations_move_bits.Goals as goal

pub returns-clause-left : goal.returns-clause-left
returns-clause-left _ = left_bits

pub returns-clause-right : goal.returns-clause-right
returns-clause-right _ = right_bits
