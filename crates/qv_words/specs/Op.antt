-- The operators' values, in whole numbers, as the standard's theories Core and FixedSizeBitVectors
-- have them. The overflow predicates, of which the standard leaves the meaning open, are this
-- project's choice.
use Rattle.std.specs.Prelude.{ℕ, zero, suc, ◌+◌, ◌-◌, ◌*◌, ◌/◌, ◌%◌, ◌^◌, ◌==◌, nat_lt, nat_le, ◌+ℤ◌, ◌-ℤ◌, ◌*ℤ◌, int_lt, int_le, Bool, not, ◌&&◌, ◌||◌, List, if◌then◌else◌, bit_and, bit_or, bit_xor, slice_index, slice_get, unwrap_or}
use Rattle.qv_words.specs.declared.sort.Sort.{Sort}
use Rattle.qv_words.specs.declared.sort.Sort.TheVariants.{Bool as BoolSort}
use Rattle.qv_words.specs.declared.op.Op.{Op}
use Rattle.qv_words.specs.declared.op.Op.TheVariants.{Not, And, Or, Xor, Implies, Equal, Ite, BvNot, BvNeg, BvAnd, BvOr, BvXor, BvNand, BvNor, BvXnor, BvAdd, BvSub, BvMul, BvUdiv, BvUrem, BvSdiv, BvSrem, BvSmod, BvShl, BvLshr, BvAshr, BvUlt, BvUle, BvUgt, BvUge, BvSlt, BvSle, BvSgt, BvSge, BvComp, Concat, Extract, Repeat, ZeroExtend, SignExtend, RotateLeft, RotateRight, BvNego, BvUaddo, BvSaddo, BvUmulo, BvSmulo, BvUsubo, BvSsubo, BvSdivo}
use Rattle.qv_words.specs.Sort.{width_of}
use Rattle.qv_words.specs.Signed.{signed, is_negative, magnitude, negated, is_outside, floor_div, residue}

-- the value of a truth value
abbrev pub truth : Bool → ℕ
truth b = if b then 1 else 0

-- the quotient and the remainder, of which those by 0 are the greatest value and a itself
abbrev pub quotient : (w a b : ℕ) → ℕ
quotient w a b = if b == 0 then 2 ^ w - 1 else a / b

abbrev pub remainder : (a b : ℕ) → ℕ
remainder a b = if b == 0 then a else a % b

-- the quotient and the remainder of the magnitudes
abbrev pub magnitude_quotient : (w a b : ℕ) → ℕ
magnitude_quotient w a b = quotient w (magnitude w a) (magnitude w b)

abbrev pub magnitude_remainder : (w a b : ℕ) → ℕ
magnitude_remainder w a b = remainder (magnitude w a) (magnitude w b)

-- the signed quotient: negated where the signs differ
abbrev pub signed_quotient : (w a b : ℕ) → ℕ
signed_quotient w a b =
    if is_negative w a then (if is_negative w b then magnitude_quotient w a b else negated w (magnitude_quotient w a b))
    else (if is_negative w b then negated w (magnitude_quotient w a b) else magnitude_quotient w a b)

-- the remainder with the sign of a
abbrev pub signed_remainder : (w a b : ℕ) → ℕ
signed_remainder w a b =
    if is_negative w a then negated w (magnitude_remainder w a b) else magnitude_remainder w a b

-- the remainder with the sign of b, from the remainder u of the magnitudes
abbrev pub modulus_from : (w a b u : ℕ) → ℕ
modulus_from w a b u =
    if u == 0 then 0
    else (if is_negative w a then (if is_negative w b then negated w u else (b + 2 ^ w - u) % 2 ^ w)
    else (if is_negative w b then (u + b) % 2 ^ w else u))

abbrev pub signed_modulus : (w a b : ℕ) → ℕ
signed_modulus w a b = modulus_from w a b (magnitude_remainder w a b)

-- the shifts: nothing is left of w bits shifted by w or more, but the sign
abbrev pub shifted_left : (w a b : ℕ) → ℕ
shifted_left w a b = if nat_le w b then 0 else a * 2 ^ b % 2 ^ w

abbrev pub shifted_right : (w a b : ℕ) → ℕ
shifted_right w a b = if nat_le w b then 0 else a / 2 ^ b

abbrev pub shifted_signed : (w a b : ℕ) → ℕ
shifted_signed w a b =
    if nat_le w b then (if is_negative w a then 2 ^ w - 1 else 0) else residue (floor_div (signed w a) (2 ^ b)) (2 ^ w)

-- k copies of w bits
abbrev pub copies : (k w a : ℕ) → ℕ
copies zero w a = 0
copies (suc k) w a = copies k w a * 2 ^ w + a

-- w bits with the k low ones moved to the high end
abbrev pub turned : (w a k : ℕ) → ℕ
turned w a k = a / 2 ^ k + a % 2 ^ k * 2 ^ (w - k)

-- the value at arguments of the values a, b and c, of which the first two are w and v bits wide
abbrev pub value_at : Op → (w v a b c : ℕ) → ℕ
value_at Not w v a b c = 1 - a
value_at And w v a b c = truth (a == 1 && b == 1)
value_at Or w v a b c = truth (a == 1 || b == 1)
value_at Xor w v a b c = truth (not (a == b))
value_at Implies w v a b c = truth (a == 0 || b == 1)
value_at Equal w v a b c = truth (a == b)
value_at Ite w v a b c = if a == 1 then b else c
value_at BvNot w v a b c = 2 ^ w - 1 - a
value_at BvNeg w v a b c = negated w a
value_at BvAnd w v a b c = bit_and a b
value_at BvOr w v a b c = bit_or a b
value_at BvXor w v a b c = bit_xor a b
value_at BvNand w v a b c = 2 ^ w - 1 - bit_and a b
value_at BvNor w v a b c = 2 ^ w - 1 - bit_or a b
value_at BvXnor w v a b c = 2 ^ w - 1 - bit_xor a b
value_at BvAdd w v a b c = (a + b) % 2 ^ w
value_at BvSub w v a b c = (a + 2 ^ w - b) % 2 ^ w
value_at BvMul w v a b c = a * b % 2 ^ w
value_at BvUdiv w v a b c = quotient w a b
value_at BvUrem w v a b c = remainder a b
value_at BvSdiv w v a b c = signed_quotient w a b
value_at BvSrem w v a b c = signed_remainder w a b
value_at BvSmod w v a b c = signed_modulus w a b
value_at BvShl w v a b c = shifted_left w a b
value_at BvLshr w v a b c = shifted_right w a b
value_at BvAshr w v a b c = shifted_signed w a b
value_at BvUlt w v a b c = truth (nat_lt a b)
value_at BvUle w v a b c = truth (nat_le a b)
value_at BvUgt w v a b c = truth (nat_lt b a)
value_at BvUge w v a b c = truth (nat_le b a)
value_at BvSlt w v a b c = truth (int_lt (signed w a) (signed w b))
value_at BvSle w v a b c = truth (int_le (signed w a) (signed w b))
value_at BvSgt w v a b c = truth (int_lt (signed w b) (signed w a))
value_at BvSge w v a b c = truth (int_le (signed w b) (signed w a))
value_at BvComp w v a b c = truth (a == b)
value_at Concat w v a b c = a * 2 ^ v + b
value_at (Extract i j) w v a b c = a / 2 ^ j % 2 ^ (i - j + 1)
value_at (Repeat k) w v a b c = copies k w a
value_at (ZeroExtend k) w v a b c = a
value_at (SignExtend k) w v a b c = residue (signed w a) (2 ^ (w + k))
value_at (RotateLeft k) w v a b c = turned w a (w - k % w)
value_at (RotateRight k) w v a b c = turned w a (k % w)
value_at BvNego w v a b c = truth (a == 2 ^ (w - 1))
value_at BvUaddo w v a b c = truth (nat_le (2 ^ w) (a + b))
value_at BvSaddo w v a b c = truth (is_outside w (signed w a +ℤ signed w b))
value_at BvUmulo w v a b c = truth (nat_le (2 ^ w) (a * b))
value_at BvSmulo w v a b c = truth (is_outside w (signed w a *ℤ signed w b))
value_at BvUsubo w v a b c = truth (nat_lt a b)
value_at BvSsubo w v a b c = truth (is_outside w (signed w a -ℤ signed w b))
value_at BvSdivo w v a b c = truth (a == 2 ^ (w - 1) && b == 2 ^ w - 1)

-- the width of the argument at a place
abbrev pub width_at : List Sort → ℕ → ℕ
width_at sorts i = width_of (unwrap_or (slice_get sorts i) BoolSort)

-- the value of an operator at arguments of these sorts and values
abbrev pub op_value : Op → List Sort → List ℕ → ℕ
op_value o sorts args =
    value_at o (width_at sorts 0) (width_at sorts 1) (slice_index args 0) (slice_index args 1) (slice_index args 2)
