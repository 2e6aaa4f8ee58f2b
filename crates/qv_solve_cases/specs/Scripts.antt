-- What scripts keep.
use Rattle.std.specs.Prelude.{List}
use Rattle.qv_words.specs.Tree.{Tree}
use Rattle.qv_script_defs.specs.State.{State}
use Rattle.qv_script_stack.specs.Held.{Held, IsScriptIn}

-- what is held in the store stands for some state
abbrev pub IsHeldIn : List Tree → Held → Type 0
IsHeldIn trees held = (s : State) × IsScriptIn trees held s
