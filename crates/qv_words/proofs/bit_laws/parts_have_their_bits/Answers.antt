use Rattle.qv_words.proofs.MovedBits.{extract_bits, concat_bits}
use Rattle.qv_words.proofs.bit_laws.parts_have_their_bits.Goals as goal

pub returns-clause-extract : goal.returns-clause-extract
returns-clause-extract _ = extract_bits

pub returns-clause-concat : goal.returns-clause-concat
returns-clause-concat _ = concat_bits
