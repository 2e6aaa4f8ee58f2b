use Rattle.qv_words.proofs.MovedBits.{bit_turned, and_bits, or_bits, xor_bits, nand_bits, nor_bits, xnor_bits}
use Rattle.qv_words.proofs.bit_laws.bitwise_operators_work_on_bits.Goals as goal

pub returns-clause-bvnot : goal.returns-clause-bvnot
returns-clause-bvnot _ = bit_turned

pub returns-clause-bvand : goal.returns-clause-bvand
returns-clause-bvand _ = and_bits

pub returns-clause-bvor : goal.returns-clause-bvor
returns-clause-bvor _ = or_bits

pub returns-clause-bvxor : goal.returns-clause-bvxor
returns-clause-bvxor _ = xor_bits

pub returns-clause-bvnand : goal.returns-clause-bvnand
returns-clause-bvnand _ = nand_bits

pub returns-clause-bvnor : goal.returns-clause-bvnor
returns-clause-bvnor _ = nor_bits

pub returns-clause-bvxnor : goal.returns-clause-bvxnor
returns-clause-bvxnor _ = xnor_bits
