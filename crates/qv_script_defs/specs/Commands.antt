-- The commands: what each does in a state, or why it is refused. In each the name is looked at
-- first, then the shape, then the state, then sorts and terms. Terms within its terms that have
-- names are defined before it.
use Rattle.std.specs.Prelude.{ℕ, is_none, Option, Some, None, option_and_then, List, [], ◌∷◌, map, Result, Ok, codes}
use Rattle.qv_sexpr.specs.Script.{atom, list, none, also}
use Rattle.qv_sexpr.specs.Script.{Tree as Expr, Trees as Exprs}
use Rattle.qv_elab_defs.specs.Faults.{◌>>=◌}
use Rattle.qv_elab_defs.specs.Tokens.{items, symbol_of, keyword_of}
use Rattle.qv_elab_defs.specs.Shapes.{Pair}
use Rattle.qv_elab_defs.specs.Scopes.{Named, found}
use Rattle.qv_script_defs.specs.declared.faults.ScriptKind.TheVariants.{Form, NotSupported}
use Rattle.qv_script_defs.specs.declared.faults.ScriptKind.TheVariants.{Command as NoCommand}
use Rattle.qv_script_defs.specs.Faults.{Fault, refuse, demand, shaped}
use Rattle.qv_script_defs.specs.Parts.{list_of, some_of, parameters_of, string_of, count_of, asserted_of, spaced}
use Rattle.qv_script_defs.specs.State.{State, opening, emptied}
use Rattle.qv_script_defs.specs.Texts.{line, infos, info_text}
use Rattle.qv_script_defs.specs.Settings.{option_text}
use Rattle.qv_script_defs.specs.Labels.{Label, nothing, below, labels_in, labels_all, labelled}
use Rattle.qv_script_defs.specs.Moves.{Move, Text, Values, Whole, Exit, quiet, set_logic, set_option, declare, define, define_sort, assert, push, pop, check, assumptions, model_there, value_terms, core_of, assumed_core_of}

pub data Command : Type 0 where
  SetLogic : Command
  SetOption : Command
  SetInfo : Command
  DeclareConst : Command
  DeclareFun : Command
  DefineFun : Command
  DefineConst : Command
  DefineSort : Command
  Assert : Command
  Push : Command
  Pop : Command
  CheckSat : Command
  CheckSatAssuming : Command
  GetValue : Command
  GetModel : Command
  GetUnsatCore : Command
  GetUnsatAssumptions : Command
  GetInfo : Command
  GetOption : Command
  Echo : Command
  ResetAssertions : Command
  Reset : Command
  Leave : Command
  -- names that are known and refused
  Unsupported : Command

unfoldable pub commands : Named Command
commands =
    (codes "set-logic", SetLogic)
    ∷ (codes "set-option", SetOption)
    ∷ (codes "set-info", SetInfo)
    ∷ (codes "declare-const", DeclareConst)
    ∷ (codes "declare-fun", DeclareFun)
    ∷ (codes "define-fun", DefineFun)
    ∷ (codes "define-const", DefineConst)
    ∷ (codes "define-sort", DefineSort)
    ∷ (codes "assert", Assert)
    ∷ (codes "push", Push)
    ∷ (codes "pop", Pop)
    ∷ (codes "check-sat", CheckSat)
    ∷ (codes "check-sat-assuming", CheckSatAssuming)
    ∷ (codes "get-value", GetValue)
    ∷ (codes "get-model", GetModel)
    ∷ (codes "get-info", GetInfo)
    ∷ (codes "get-option", GetOption)
    ∷ (codes "echo", Echo)
    ∷ (codes "reset-assertions", ResetAssertions)
    ∷ (codes "reset", Reset)
    ∷ (codes "exit", Leave)
    ∷ (codes "define-fun-rec", Unsupported)
    ∷ (codes "define-funs-rec", Unsupported)
    ∷ (codes "declare-sort", Unsupported)
    ∷ (codes "declare-sort-parameter", Unsupported)
    ∷ (codes "declare-datatype", Unsupported)
    ∷ (codes "declare-datatypes", Unsupported)
    ∷ (codes "get-proof", Unsupported)
    ∷ (codes "get-assertions", Unsupported)
    ∷ (codes "get-assignment", Unsupported)
    ∷ (codes "get-unsat-assumptions", GetUnsatAssumptions)
    ∷ (codes "get-unsat-core", GetUnsatCore)
    ∷ []

-- a command with these arguments, at this place
abbrev pub step : Command → ℕ → List Expr → State → Move
-- (set-logic L)
step SetLogic p (l ∷ []) s = shaped p (symbol_of l) >>= λ name. set_logic p s name
-- (set-option :k v)
step SetOption p (k ∷ v ∷ []) s = shaped p (keyword_of k) >>= λ key. set_option p s key v
-- (set-info :k), (set-info :k v)
step SetInfo p (k ∷ []) s = shaped p (keyword_of k) >>= λ _. quiet s
step SetInfo p (k ∷ v ∷ []) s = shaped p (keyword_of k) >>= λ _. quiet s
-- (declare-const x S)
step DeclareConst p (x ∷ sort ∷ []) s = shaped p (symbol_of x) >>= λ name. declare p s name sort
-- (declare-fun x () S)
step DeclareFun p (x ∷ arguments ∷ sort ∷ []) s =
    shaped p (symbol_of x) >>= λ name.
    shaped p (list_of arguments) >>= λ sorts.
    demand p NotSupported (is_none (some_of (Some sorts))) >>= λ _.
    declare p s name sort
-- (define-fun f ((x S) ..) S t)
step DefineFun p (f ∷ parameters ∷ sort ∷ t ∷ []) s =
    shaped p (symbol_of f) >>= λ name.
    shaped p (parameters_of parameters) >>= λ pairs.
    define p s name pairs sort t
-- (define-const f S t)
step DefineConst p (f ∷ sort ∷ t ∷ []) s = shaped p (symbol_of f) >>= λ name. define p s name [] sort t
-- (define-sort x () S)
step DefineSort p (x ∷ parameters ∷ sort ∷ []) s =
    shaped p (symbol_of x) >>= λ name.
    shaped p (list_of parameters) >>= λ names.
    demand p NotSupported (is_none (some_of (Some names))) >>= λ _.
    define_sort p s name sort
-- (assert t), (assert (! t .. :named x ..))
step Assert p (t ∷ []) s = assert p s t (asserted_of t).name (asserted_of t).term
-- (push), (push n), (pop), (pop n)
step Push p ns s = count_of p ns >>= λ n. push p s n
step Pop p ns s = count_of p ns >>= λ n. pop p s n
-- (check-sat)
step CheckSat p [] s = check s None []
-- (check-sat-assuming (t ..))
step CheckSatAssuming p (ts ∷ []) s = shaped p (list_of ts) >>= λ terms. assumptions s terms >>= λ trees. check s (Some (map spaced terms)) trees
-- (get-value (t ..))
step GetValue p (ts ∷ []) s =
    shaped p (some_of (list_of ts)) >>= λ terms.
    model_there p s >>= λ _.
    value_terms s terms >>= λ values.
    Ok (s, Values values)
-- (get-model)
step GetModel p [] s = model_there p s >>= λ _. Ok (s, Whole)
-- (get-unsat-core)
step GetUnsatCore p [] s = core_of p s
-- (get-unsat-assumptions)
step GetUnsatAssumptions p [] s = assumed_core_of p s
-- (get-info :k)
step GetInfo p (k ∷ []) s = shaped p (keyword_of k) >>= λ key. info_text p s key (found key infos) >>= λ text. Ok (s, Text text)
-- (get-option :k)
step GetOption p (k ∷ []) s = shaped p (keyword_of k) >>= λ key. Ok (s, Text (option_text s key))
-- (echo "s")
step Echo p (e ∷ []) s = shaped p (string_of e) >>= λ text. Ok (s, Text (line text))
-- (reset-assertions), (reset), (exit)
step ResetAssertions p [] s = quiet (emptied s)
step Reset p [] s = quiet opening
step Leave p [] s = Ok (s, Exit)
step Unsupported p _ s = refuse p NotSupported
-- a known name with another shape
step _ p _ s = refuse p Form

-- the labels of a definition's body, whose parameters are bound
abbrev pub labels_of_body : Option (List Pair) → Expr → Result (List Label) Fault
labels_of_body (Some parameters) body = labels_in body (below parameters nothing) []
labels_of_body None body = Ok []

-- the expressions in a list
abbrev pub listed : Expr → Exprs
listed (atom l) = none
listed (list place within close) = within

-- the terms within those of a command that have names, but an assertion's own name
abbrev pub labels_of : Command → List Expr → Result (List Label) Fault
labels_of Assert (t ∷ []) = labels_in (asserted_of t).term nothing []
labels_of CheckSatAssuming (ts ∷ []) = labels_all (listed ts) nothing []
labels_of GetValue (ts ∷ []) = labels_all (listed ts) nothing []
labels_of DefineFun (f ∷ parameters ∷ sort ∷ t ∷ []) = labels_of_body (parameters_of parameters) t
labels_of DefineConst (f ∷ sort ∷ t ∷ []) = labels_in t nothing []
labels_of _ _ = Ok []

-- a command behind the definitions of terms with names
abbrev pub behind_labels : Command → ℕ → List Expr → State → List Label → Move
behind_labels command place args s ls = labelled place ls s >>= λ now. step command place args now

abbrev pub commanded : Command → ℕ → List Expr → State → Move
commanded command place args s = labels_of command args >>= λ ls. behind_labels command place args s ls

-- the command of this name
abbrev pub known : ℕ → Option Command → Result Command Fault
known place (Some command) = Ok command
known place None = refuse place NoCommand

-- the next state and the effect of a command, or its fault
abbrev pub after : State → Expr → Move
after s (atom l) = refuse l.place NoCommand
after s (list place none close) = refuse place NoCommand
after s (list place (also first arguments) close) =
    known place (option_and_then (λ name. found name commands) (symbol_of first)) >>= λ command.
    commanded command place (items arguments) s
