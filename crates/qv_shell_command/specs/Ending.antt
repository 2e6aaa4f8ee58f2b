-- The status with which a run ends.
use Rattle.std.specs.Prelude.{ℕ}
use Rattle.qv_shell_command.specs.declared.ending.Ending.{Ending}
use Rattle.qv_shell_command.specs.declared.ending.Ending.TheVariants.{Done, Refused, Unaccepted}
use Rattle.qv_shell_command.specs.declared.ending.Halt.{Halt}
use Rattle.qv_shell_command.specs.declared.ending.Halt.TheVariants.{Read, Write, NoMemory}

-- of a script that was followed to its end
abbrev pub status_of : Ending → ℕ
status_of Done = 0
status_of Refused = 1
status_of Unaccepted = 6

-- of one that was not
abbrev pub halt_status : Halt → ℕ
halt_status Read = 3
halt_status Write = 4
halt_status NoMemory = 5
