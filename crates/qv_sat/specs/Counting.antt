-- How many variables have no value.
use Rattle.std.specs.Prelude.{ℕ, zero, suc, ◌+◌, List, Option, Some, None}
use Rattle.qv_watch.specs.Entries.{Entry, entry_at}

abbrev pub one_if_none : Option Entry → ℕ
one_if_none None = 1
one_if_none (Some e) = 0

-- among the variables from 1 to n
abbrev pub unvalued : ℕ → List Entry → ℕ
unvalued zero es = 0
unvalued (suc n) es = unvalued n es + one_if_none (entry_at (suc n) es)
