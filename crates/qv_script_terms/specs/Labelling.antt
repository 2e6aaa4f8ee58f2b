-- What is answered of terms with names that are defined.
use Rattle.std.specs.Prelude.{◌≡◌, ℕ, List, Result, Ok, Err, Vec}
use Rattle.std.specs.declared.alloc.Global.{Global}
use Rattle.qv_words.specs.declared.sort.Sort.{Sort}
use Rattle.qv_words.specs.Tree.{Tree}
use Rattle.qv_elab_macros.specs.declared.body.Body.{Body}
use Rattle.qv_script_defs.specs.declared.faults.ScriptFault.{ScriptFault}
use Rattle.qv_script_defs.specs.declared.faults.ScriptFault.TheVariants.{At, NoMemory}
use Rattle.qv_script_defs.specs.Faults.{Fault}
use Rattle.qv_script_defs.specs.State.{State}
use Rattle.qv_script_stack.specs.Held.{Held, IsScriptIn}
use Rattle.qv_script_stack.specs.Changes.{with_definition}

-- one definition more
abbrev pub IsDefined : Held → Held → Type 0
IsDefined old new = (name : List ℕ) × (sorts : Vec Sort Global) × (body : Body) × (new ≡ with_definition name sorts body old)

-- the state, where so much is held; or its fault; want of memory says nothing
abbrev pub GivesState : List Tree → Held → Result State Fault → Result (Unit {0}) ScriptFault → Type 0
GivesState trees held given (Ok done) = (now : State) × (given ≡ Ok now) × IsScriptIn trees held now
GivesState trees held given (Err (At place kind)) = given ≡ Err (record { place = place; kind = kind })
GivesState trees held given (Err NoMemory) = Unit {0}
