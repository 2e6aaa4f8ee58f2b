-- Values of w bits as signed numbers, in two's complement.
use Rattle.std.specs.Prelude.{ℕ, ◌-◌, ◌/◌, ◌%◌, ◌^◌, nat_le, ℤ, pos, negsuc, Bool, if◌then◌else◌}

-- the sign bit is set
abbrev pub is_negative : (w a : ℕ) → Bool
is_negative w a = nat_le (2 ^ (w - 1)) a

-- a, or a - 2^w where the sign bit is set: negsuc n is -(n + 1)
abbrev pub signed : (w a : ℕ) → ℤ
signed w a = if is_negative w a then negsuc (2 ^ w - 1 - a) else pos a

-- the value with the opposite sign
abbrev pub negated : (w a : ℕ) → ℕ
negated w a = (2 ^ w - a) % 2 ^ w

-- the value without its sign
abbrev pub magnitude : (w a : ℕ) → ℕ
magnitude w a = if is_negative w a then negated w a else a

-- a number below -2^(w - 1), or above 2^(w - 1) - 1
abbrev pub is_outside : ℕ → ℤ → Bool
is_outside w (pos n) = nat_le (2 ^ (w - 1)) n
is_outside w (negsuc n) = nat_le (2 ^ (w - 1)) n

-- a number divided by d, rounded down
abbrev pub floor_div : ℤ → ℕ → ℤ
floor_div (pos n) d = pos (n / d)
floor_div (negsuc n) d = negsuc (n / d)

-- a number modulo m
abbrev pub residue : ℤ → ℕ → ℕ
residue (pos n) m = n % m
residue (negsuc n) m = m - 1 - n % m
