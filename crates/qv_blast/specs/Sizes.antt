-- How much room is made for an operator's circuit, at most.
use Rattle.std.specs.Prelude.{ℕ, ◌+◌, ◌*◌}
use Rattle.qv_words.specs.Routine.{stage_count}
use Rattle.qv_words.specs.declared.op.Op.{Op}
use Rattle.qv_words.specs.declared.op.Op.TheVariants as op

-- how many rows of bits an operator's circuit goes through, at most: one for each bit where it
-- multiplies or divides, one for each stage of a shift, and one row otherwise
abbrev pub row_count : Op → ℕ → ℕ
row_count op.BvMul width = width + 1
row_count op.BvUdiv width = width + 1
row_count op.BvUrem width = width + 1
row_count op.BvSdiv width = width + 1
row_count op.BvSrem width = width + 1
row_count op.BvSmod width = width + 1
row_count op.BvUmulo width = width + 1
row_count op.BvSmulo width = width + 1
row_count op.BvShl width = stage_count width + 1
row_count op.BvLshr width = stage_count width + 1
row_count op.BvAshr width = stage_count width + 1
row_count _ width = 1

-- the bits of all rows
abbrev pub bit_count : Op → ℕ → ℕ
bit_count op width = row_count op width * (width + 1)
