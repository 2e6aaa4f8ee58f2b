-- Depths as calls count them.
use Rattle.std.specs.Prelude.{ℕ, ◌-◌, ◌^◌, min}

-- a depth, as far as a u64 tells it
abbrev pub saturated : ℕ → ℕ
saturated n = min n (2 ^ 64 - 1)
