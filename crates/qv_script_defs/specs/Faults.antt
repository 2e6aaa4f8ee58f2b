-- The faults of commands, and their lines.
use Rattle.std.specs.Prelude.{ℕ, ◌++◌, Bool, true, false, Option, Some, None, List, Result, Ok, Err, codes}
use Rattle.std.specs.Fmt.{decimal}
use Rattle.qv_elab_defs.specs.declared.faults.ElabKind.{ElabKind}
use Rattle.qv_elab_defs.specs.declared.faults.ElabKind.TheVariants as term
use Rattle.qv_elab_defs.specs.declared.faults.ElabFault.{ElabFault}
use Rattle.qv_elab_defs.specs.declared.faults.ElabFault.TheVariants as elab
use Rattle.qv_elab_defs.specs.Faults.{Fault as TermFault}
use Rattle.qv_script_defs.specs.declared.faults.ScriptFault.{ScriptFault}
use Rattle.qv_script_defs.specs.declared.faults.ScriptFault.TheVariants as told
use Rattle.qv_script_defs.specs.declared.faults.ScriptKind.{ScriptKind}
use Rattle.qv_script_defs.specs.declared.faults.ScriptKind.TheVariants.{Command, Literal, Form, NotSupported, NotSupportedYet, UnknownName, Arity, Sorts, Index, Width, RepeatedName, DepthLimit, NameInUse, Logic, PopBelow, LevelLimit, NoModel, NoReason, Quantifier, NoCore}

-- a kind of fault, at a place
pub record Fault : Type 0 where
  pub place : ℕ
  pub kind : ScriptKind

abbrev pub refuse : {A : Type 0} → ℕ → ScriptKind → Result A Fault
refuse place kind = Err (record { place = place; kind = kind })

-- nothing, unless the test fails
abbrev pub demand : ℕ → ScriptKind → Bool → Result (Unit {0}) Fault
demand place kind true = Ok tt
demand place kind false = refuse place kind

-- what has its shape
abbrev pub shaped : {A : Type 0} → ℕ → Option A → Result A Fault
shaped place (Some x) = Ok x
shaped place None = refuse place Form

-- the kinds of faults of terms and sorts
abbrev pub kind_of : ElabKind → ScriptKind
kind_of term.Literal = Literal
kind_of term.Form = Form
kind_of term.NotSupported = NotSupported
kind_of term.NotSupportedYet = NotSupportedYet
kind_of term.UnknownName = UnknownName
kind_of term.Arity = Arity
kind_of term.Sorts = Sorts
kind_of term.Index = Index
kind_of term.Width = Width
kind_of term.RepeatedName = RepeatedName
kind_of term.DepthLimit = DepthLimit

-- a fault of a term or a sort is one of the command
abbrev pub fault_of : ElabFault → ScriptFault
fault_of (elab.At place kind) = told.At place (kind_of kind)
fault_of elab.NoMemory = told.NoMemory

-- what a term or sort inside a command gives
abbrev pub inside : {A : Type 0} → Result A TermFault → Result A Fault
inside (Ok x) = Ok x
inside (Err fault) = refuse fault.place (kind_of fault.kind)

abbrev pub kind_text : ScriptKind → List ℕ
kind_text Command = codes "command"
kind_text Literal = codes "literal"
kind_text Form = codes "form"
kind_text NotSupported = codes "not supported"
kind_text NotSupportedYet = codes "not supported yet"
kind_text UnknownName = codes "unknown name"
kind_text Arity = codes "arity"
kind_text Sorts = codes "sorts"
kind_text Index = codes "index"
kind_text Width = codes "width"
kind_text RepeatedName = codes "repeated name"
kind_text DepthLimit = codes "depth limit"
kind_text NameInUse = codes "name in use"
kind_text Logic = codes "logic"
kind_text PopBelow = codes "pop below the first level"
kind_text LevelLimit = codes "level limit"
kind_text NoModel = codes "no model"
kind_text NoReason = codes "no reason"
kind_text Quantifier = codes "quantifier"
kind_text NoCore = codes "no core"

-- the line of a fault of this name
abbrev pub refusal : ℕ → List ℕ → List ℕ
refusal place kind = codes "(error \"at " ++ (decimal place ++ (codes ": " ++ (kind ++ codes "\")\n")))

abbrev pub fault_line : Fault → List ℕ
fault_line fault = refusal fault.place (kind_text fault.kind)
