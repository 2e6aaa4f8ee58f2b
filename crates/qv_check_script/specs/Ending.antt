-- The status with which a check ends.
use Rattle.std.specs.Prelude.{ℕ, Result, Ok, Err}
use Rattle.qv_check_script.specs.declared.ending.Ending.{Ending}
use Rattle.qv_check_script.specs.declared.ending.Ending.TheVariants.{Accepted, Faulty, Refused}
use Rattle.qv_check_script.specs.declared.ending.Halt.{Halt}
use Rattle.qv_check_script.specs.declared.ending.Halt.TheVariants.{Read, ReadLimit, Write, NoMemory}

abbrev pub status_of : Ending → ℕ
status_of Accepted = 0
status_of Faulty = 1
status_of Refused = 6

-- of one that stopped before its end
abbrev pub halt_status : Halt → ℕ
halt_status Read = 3
halt_status ReadLimit = 3
halt_status Write = 4
halt_status NoMemory = 5

abbrev pub run_status : Result Ending Halt → ℕ
run_status (Ok ending) = status_of ending
run_status (Err halt) = halt_status halt
