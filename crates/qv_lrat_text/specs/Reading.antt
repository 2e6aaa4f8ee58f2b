-- What reading a line answers.
use Rattle.std.specs.Prelude.{◌≡◌, Option, Some, None, Result, Ok, Err}
use Rattle.qv_lrat_text.specs.declared.fault.LineFault.{LineFault}
use Rattle.qv_lrat_text.specs.declared.fault.LineFault.TheVariants.{Form, NoMemory}

-- nothing is read, unless memory ran out
abbrev pub Fails : {Y : Type 0} → LineFault → Option Y → Type 0
Fails Form read = read ≡ None
Fails NoMemory read = Unit {0}

-- what was returned, seen by `view`, is what is read
abbrev pub Gives : {X Y : Type 0} → (X → Y) → Result X LineFault → Option Y → Type 0
Gives view (Ok x) read = read ≡ Some (view x)
Gives view (Err fault) read = Fails fault read
