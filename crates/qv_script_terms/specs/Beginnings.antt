-- What is looked at of a command before memory is wanted: of one without terms the whole.
use Rattle.std.specs.Prelude.{ℕ, Option, Some, None, List, [], ◌∷◌, Result, Ok}
use Rattle.qv_words.specs.Tree.{Tree}
use Rattle.qv_sexpr.specs.declared.items.Expr.{Expr as Items}
use Rattle.qv_sexpr.specs.Script.{Tree as Expr}
use Rattle.qv_elab_defs.specs.Faults.{◌>>=◌}
use Rattle.qv_elab_defs.specs.Tokens.{symbol_of}
use Rattle.qv_elab_defs.specs.Scopes.{outermost}
use Rattle.qv_elab_defs.specs.Synonyms.{scoped_sort}
use Rattle.qv_elab_defs.specs.Beginnings.{beginning}
use Rattle.qv_script_defs.specs.declared.effects.Effect.{Effect as Done}
use Rattle.qv_script_defs.specs.declared.faults.ScriptFault.{ScriptFault}
use Rattle.qv_script_defs.specs.Faults.{Fault, shaped, inside}
use Rattle.qv_script_defs.specs.Parts.{asserted_of, list_of, some_of, parameters_of}
use Rattle.qv_script_defs.specs.State.{State, scope_of}
use Rattle.qv_script_defs.specs.Moves.{fresh, model_there}
use Rattle.qv_script_defs.specs.Commands.{Command, DefineFun, DefineConst, Assert, CheckSatAssuming, GetValue, step}
use Rattle.qv_script_parts.specs.Parted.{AreParts}
use Rattle.qv_script_stack.specs.Held.{Held, IsScriptIn}
use Rattle.qv_script_stack.specs.Steps.{RunsOut}

-- how a term begins
abbrev pub term_beginning : State → Expr → Result (Unit {0}) Fault
term_beginning s e = inside (beginning e (outermost (scope_of s)))

-- of a term that is asserted, and its name, if it has one
abbrev pub assert_beginning : ℕ → State → Option (List ℕ) → Expr → Result (Unit {0}) Fault
assert_beginning p s (Some name) term = fresh p s name >>= λ _. term_beginning s term
assert_beginning p s None term = term_beginning s term

-- of a definition without parameters: its sort, and how its body begins
abbrev pub body_beginning : State → Expr → Expr → Result (Unit {0}) Fault
body_beginning s sort body = inside (scoped_sort (scope_of s) sort) >>= λ _. term_beginning s body

-- of a command with these arguments: its shape, whether its name is free, its sort, how its term begins
abbrev pub command_beginning : Command → ℕ → List Expr → State → Result (Unit {0}) Fault
command_beginning Assert p (t ∷ []) s = assert_beginning p s (asserted_of t).name (asserted_of t).term
command_beginning DefineConst p (f ∷ sort ∷ t ∷ []) s =
    shaped p (symbol_of f) >>= λ name. fresh p s name >>= λ _. body_beginning s sort t
command_beginning DefineFun p (f ∷ parameters ∷ sort ∷ t ∷ []) s =
    shaped p (symbol_of f) >>= λ name. shaped p (parameters_of parameters) >>= λ _. fresh p s name
command_beginning CheckSatAssuming p (ts ∷ []) s = shaped p (list_of ts) >>= λ _. Ok tt
command_beginning GetValue p (ts ∷ []) s = shaped p (some_of (list_of ts)) >>= λ _. model_there p s
command_beginning command p args s = step command p args s >>= λ _. Ok tt

-- memory runs out in a command with arguments at these items only where nothing of that is refused
abbrev pub RunsOutIn : Command → ℕ → Items → List ℕ → List Tree → Held → Result Done ScriptFault → Type 0
RunsOutIn command place expr args trees old result =
    (s : State) (es : List Expr) →
    IsScriptIn trees old s → AreParts expr args es → RunsOut (command_beginning command place es s) result
