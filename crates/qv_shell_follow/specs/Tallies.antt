-- The tally of a run.
use Rattle.std.specs.Prelude.{◌≡◌, List, Result, Ok, Err}
use Rattle.qv_script_transcript.specs.Following.{CheckSat}
use Rattle.qv_shell_command.specs.declared.ending.Halt.{Halt}
use Rattle.qv_shell_command.specs.Tallies.{tally_of}
use Rattle.qv_shell_follow.specs.declared.following.Followed.{Followed}

-- it is that of these checks
abbrev pub IsTallied : List CheckSat → Result Followed Halt → Type 0
IsTallied checks (Ok followed) = followed.tally ≡ tally_of checks
IsTallied checks (Err halt) = Unit {0}
