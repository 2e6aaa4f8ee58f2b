-- How many checks have which answer, as it is printed.
use Rattle.std.specs.Prelude.{ℕ, List, ◌++◌, codes}
use Rattle.std.specs.Fmt.{decimal}
use Rattle.qv_gen.specs.declared.counts.Counts.{Counts}

-- a line for each count
abbrev pub counts_text : Counts → List ℕ
counts_text c =
    codes "checks " ++ (decimal c.checks ++ (codes "\nsat " ++ (decimal c.sat ++ (codes "\nunsat " ++ (decimal c.unsat
    ++ (codes "\nunknown " ++ (decimal c.unknown ++ codes "\n")))))))
