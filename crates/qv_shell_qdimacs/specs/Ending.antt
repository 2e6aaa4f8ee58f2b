-- The status with which a run ends.
use Rattle.std.specs.Prelude.{ℕ, Result, Ok, Err}
use Rattle.qv_check_script.specs.declared.ending.Halt.{Halt}
use Rattle.qv_check_script.specs.Ending.{halt_status}
use Rattle.qv_shell_qdimacs.specs.declared.ending.FileEnding.{FileEnding}
use Rattle.qv_shell_qdimacs.specs.declared.ending.FileEnding.TheVariants.{Answered, Faulty}

abbrev pub status_of : FileEnding → ℕ
status_of Answered = 0
status_of Faulty = 1

abbrev pub run_status : Result FileEnding Halt → ℕ
run_status (Ok ending) = status_of ending
run_status (Err halt) = halt_status halt
