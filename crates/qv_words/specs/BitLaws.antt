-- The operators that work on single bits or move them, by the bits of their values: bit 0 is the
-- lowest.
use Rattle.std.specs.Prelude.{◌≡◌, ℕ, ◌+◌, ◌-◌, ◌*◌, ◌%◌, ◌^◌, ◌≤◌, ◌<◌, [], ◌∷◌}
use Rattle.std.specs.Int.{bit_at}
use Rattle.qv_words.specs.declared.sort.Sort.TheVariants.{Bits}
use Rattle.qv_words.specs.declared.op.Op.{Op}
use Rattle.qv_words.specs.declared.op.Op.TheVariants.{BvNot, Concat, Extract, Repeat, ZeroExtend, SignExtend, RotateLeft, RotateRight}
use Rattle.qv_words.specs.Op.{op_value}

-- each bit of the result is a function of the two bits at its place
abbrev pub WorksOnBits : Op → (ℕ → ℕ → ℕ) → Type 0
WorksOnBits o f =
    (w a b i : ℕ) → a < 2 ^ w → b < 2 ^ w → i < w →
    bit_at (op_value o (Bits w ∷ Bits w ∷ []) (a ∷ b ∷ [])) i ≡ f (bit_at a i) (bit_at b i)

abbrev pub BvNotTurnsBits : Type 0
BvNotTurnsBits = (w a i : ℕ) → a < 2 ^ w → i < w → bit_at (op_value BvNot (Bits w ∷ []) (a ∷ [])) i ≡ 1 - bit_at a i

-- to the left by k: bit i is the bit k places lower, where the places below 0 are those below w
abbrev pub RotateLeftMovesBits : Type 0
RotateLeftMovesBits =
    (w k a i : ℕ) → a < 2 ^ w → i < w →
    bit_at (op_value (RotateLeft k) (Bits w ∷ []) (a ∷ [])) i ≡ bit_at a ((i + w - k % w) % w)

-- to the right by k: bit i is the bit k places higher, where the places from w on are those from 0
-- on
abbrev pub RotateRightMovesBits : Type 0
RotateRightMovesBits =
    (w k a i : ℕ) → a < 2 ^ w → i < w →
    bit_at (op_value (RotateRight k) (Bits w ∷ []) (a ∷ [])) i ≡ bit_at a ((i + k) % w)

-- k copies: bit i is the bit at its place in its copy
abbrev pub RepeatCopiesBits : Type 0
RepeatCopiesBits =
    (w k a i : ℕ) → a < 2 ^ w → i < k * w →
    bit_at (op_value (Repeat k) (Bits w ∷ []) (a ∷ [])) i ≡ bit_at a (i % w)

-- the low bits stay, and those above are zeros
abbrev pub ZeroExtendAddsZeros : Type 0
ZeroExtendAddsZeros =
    (w k a i : ℕ) → a < 2 ^ w →
    (i < w → bit_at (op_value (ZeroExtend k) (Bits w ∷ []) (a ∷ [])) i ≡ bit_at a i)
    × (w ≤ i → bit_at (op_value (ZeroExtend k) (Bits w ∷ []) (a ∷ [])) i ≡ 0)

-- the low bits stay, and the k above are the highest one
abbrev pub SignExtendCopiesSign : Type 0
SignExtendCopiesSign =
    (w k a i : ℕ) → 1 ≤ w → a < 2 ^ w →
    (i < w → bit_at (op_value (SignExtend k) (Bits w ∷ []) (a ∷ [])) i ≡ bit_at a i)
    × (w ≤ i → i < w + k → bit_at (op_value (SignExtend k) (Bits w ∷ []) (a ∷ [])) i ≡ bit_at a (w - 1))

-- bits j to i, from the lowest on, and nothing above
abbrev pub ExtractTakesBits : Type 0
ExtractTakesBits =
    (w i j a n : ℕ) →
    (n < i - j + 1 → bit_at (op_value (Extract i j) (Bits w ∷ []) (a ∷ [])) n ≡ bit_at a (j + n))
    × (i - j + 1 ≤ n → bit_at (op_value (Extract i j) (Bits w ∷ []) (a ∷ [])) n ≡ 0)

-- the bits of the second argument, of v bits, and above them those of the first
abbrev pub ConcatJoinsBits : Type 0
ConcatJoinsBits =
    (w v a b i : ℕ) → b < 2 ^ v →
    (i < v → bit_at (op_value Concat (Bits w ∷ Bits v ∷ []) (a ∷ b ∷ [])) i ≡ bit_at b i)
    × (v ≤ i → bit_at (op_value Concat (Bits w ∷ Bits v ∷ []) (a ∷ b ∷ [])) i ≡ bit_at a (i - v))
