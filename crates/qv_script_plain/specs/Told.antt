-- What options come to. No public contract cites this.
use Rattle.std.specs.Prelude.{ℕ, if◌then◌else◌, Bool, List, Ok}
use Rattle.qv_sexpr.specs.Script.{Tree as Written}
use Rattle.qv_script_defs.specs.State.{State}
use Rattle.qv_script_defs.specs.Texts.{unsupported}
use Rattle.qv_script_defs.specs.Moves.{Move, Text, quiet, with_value}

-- an option is set
abbrev pub kept : List ℕ → Written → State → Move
kept key value s = quiet (with_value key value s)

-- an option is set, where its value is supported
abbrev pub channelled : Bool → List ℕ → Written → State → Move
channelled supported key value s = if supported then kept key value s else Ok (s, Text unsupported)
