-- The status with which a run ends.
use Rattle.std.specs.Prelude.{ℕ, Result, Ok, Err}
use Rattle.qv_shell_command.specs.declared.ending.Halt.{Halt}
use Rattle.qv_shell_command.specs.Ending.{status_of, halt_status}
use Rattle.qv_shell_follow.specs.declared.following.Followed.{Followed}

abbrev pub run_status : Result Followed Halt → ℕ
run_status (Ok followed) = status_of followed.ending
run_status (Err halt) = halt_status halt
