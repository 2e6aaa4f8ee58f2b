-- The greatest variable of clauses.
use Rattle.std.specs.Prelude.{ℕ, max, List}
use Rattle.std.specs.List.{fold}
use Rattle.qv_cnf.specs.Listing.{Numbered}

-- over their literals, from 0
abbrev pub greatest_variable : List Numbered → ℕ
greatest_variable clauses = fold (λ n c. fold (λ m l. max m l.variable) n c.lits) 0 clauses
