-- How many checks have which answer.
use Rattle.std.specs.Prelude.{◌+◌, ◌≡◌, ◌<◌, ◌^◌, List, [], ◌∷◌}
use Rattle.qv_script_defs.specs.State.{Last, Sat, Unsat, Unknown}
use Rattle.qv_script_transcript.specs.Following.{CheckSat}
use Rattle.qv_shell_command.specs.declared.tallies.Tally.{Tally}

abbrev pub no_checks : Tally
no_checks = record { checks = 0; sat = 0; unsat = 0; unknown = 0 }

-- one more
abbrev pub counted : Last → Tally → Tally
counted (Sat values) t = record { checks = t.checks + 1; sat = t.sat + 1; unsat = t.unsat; unknown = t.unknown }
counted Unsat t = record { checks = t.checks + 1; sat = t.sat; unsat = t.unsat + 1; unknown = t.unknown }
counted (Unknown spent) t = record { checks = t.checks + 1; sat = t.sat; unsat = t.unsat; unknown = t.unknown + 1 }

-- of checks behind those that were counted
abbrev pub counted_all : List CheckSat → Tally → Tally
counted_all [] t = t
counted_all (check ∷ checks) t = counted_all checks (counted check.answer t)

abbrev pub tally_of : List CheckSat → Tally
tally_of checks = counted_all checks no_checks

-- the answers are all the checks, and there is room for more
pub record IsSmall (t : Tally) : Type 0 where
  pub all : t.sat + t.unsat + t.unknown ≡ t.checks
  pub few : t.checks < 2 ^ 62
