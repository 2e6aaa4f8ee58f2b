-- The next level of each block.
use Rattle.std.specs.Prelude.{ℕ, List, slice_index_or}

-- that of a block: behind the list it is the total
abbrev pub next_of : List ℕ → ℕ → ℕ → ℕ
next_of next total k = slice_index_or next k total
