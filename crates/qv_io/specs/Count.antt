-- Counts, which stand still at the largest `u64`.
use Rattle.std.specs.Prelude.{◌≡◌, ℕ, ◌+◌, ◌-◌, ◌^◌, ◌<◌, ◌⊎◌, min}

-- the last value of a count
abbrev pub last_count : ℕ
last_count = 2 ^ 64 - 1

-- so many more, or the last value where that is as much
abbrev pub count_on : ℕ → ℕ → ℕ
count_on count more = min (count + more) last_count

-- one more, or the last value where the count stands there already
abbrev pub next_count : ℕ → ℕ
next_count count = min (count + 1) last_count

-- the count is greater than before, or stood at its last value already
abbrev pub Rose : ℕ → ℕ → Type 0
Rose old new = (old < new) ⊎ (old ≡ last_count)
