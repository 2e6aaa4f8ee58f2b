-- The values of a sort, as the standard's theory FixedSizeBitVectors has them.
use Rattle.std.specs.Prelude.{ℕ, ◌≤◌, ◌<◌, ◌^◌}
use Rattle.qv_words.specs.declared.sort.Sort.{Sort}
use Rattle.qv_words.specs.declared.sort.Sort.TheVariants.{Bool, Bits}

-- how many bits a value has
abbrev pub width_of : Sort → ℕ
width_of Bool = 1
width_of (Bits w) = w

-- how many values there are: 2 of Bool, 2^w of width w
abbrev pub size_of : Sort → ℕ
size_of s = 2 ^ width_of s

-- a width is from 1 to 128
abbrev pub IsLawful : Sort → Type 0
IsLawful s = (1 ≤ width_of s) × (width_of s ≤ 128)

-- the values are the numbers below that
abbrev pub IsValueOf : ℕ → Sort → Type 0
IsValueOf v s = v < size_of s
