-- The numbers of reading.
use Rattle.std.specs.Prelude.{ℕ, ◌-◌, ◌^◌}

-- how many parentheses may be open at once
abbrev pub nesting_limit : ℕ
nesting_limit = 1000000

-- how many bytes a reader asks a source for at a time
abbrev pub piece_size : ℕ
piece_size = 4096

-- Once so many bytes of a source were taken, no more are. So each place lies below 2 ^ 62.
abbrev pub read_limit : ℕ
read_limit = 2 ^ 62 - piece_size
