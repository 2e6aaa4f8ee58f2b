-- What the commands do, apart from their shapes.
use Rattle.std.specs.Prelude.{ℕ, ◌+◌, ◌&&◌, not, nat_le, if◌then◌else◌, Bool, true, false, is_some, Option, Some, None, List, [], ◌∷◌, ◌++◌, map, length, Result, Ok}
use Rattle.std.specs.Str.{bytes_eq}
use Rattle.std.specs.List.{list_any}
use Rattle.qv_sexpr.specs.Script.{Tree as Expr}
use Rattle.qv_words.specs.declared.sort.Sort.TheVariants.{Bool as BoolSort}
use Rattle.qv_words.specs.Tree.{Tree}
use Rattle.qv_words.specs.Prenex.{is_quantified}
use Rattle.qv_elab_defs.specs.Faults.{◌>>=◌}
use Rattle.qv_elab_defs.specs.Tokens.{place_of, numeral_of}
use Rattle.qv_elab_defs.specs.Shapes.{Pair}
use Rattle.qv_elab_defs.specs.Scopes.{Named, Synonym, sort_key}
use Rattle.qv_elab_defs.specs.Synonyms.{scoped_sort}
use Rattle.qv_elab_defs.specs.Elaborating.{of_sort}
use Rattle.qv_elab_defs.specs.Defining.{elaborate, elaborate_to, read_parameters, elaborate_body, definition}
use Rattle.qv_script_values.specs.SymbolText.{symbol_text}
use Rattle.qv_script_defs.specs.declared.faults.ScriptKind.TheVariants.{Form, NameInUse, Logic, PopBelow, LevelLimit, NoModel, NoCore, Quantifier}
use Rattle.qv_script_defs.specs.declared.settings.Setting.{Setting}
use Rattle.qv_script_defs.specs.declared.settings.Setting.TheVariants as setting
use Rattle.qv_script_defs.specs.Faults.{Fault, demand, shaped, inside}
use Rattle.qv_script_defs.specs.Parts.{truth_of, string_of, spaced}
use Rattle.qv_script_defs.specs.Texts.{unsupported}
use Rattle.qv_script_defs.specs.Logics.{is_logic}
use Rattle.qv_script_defs.specs.Settings.{setting_of, standard_output, standard_error}
use Rattle.qv_script_defs.specs.State.{State, Last, Sat, Unsat, scope_of, in_force, last_checked, named_in_force, terms_behind, is_taken, is_sort_taken, with_entry, with_assertion, with_constant, pushed, popped, forgetful}

-- a term whose value is asked for, as it is written
pub record ValueTerm : Type 0 where
  pub text : List ℕ
  pub tree : Tree

-- what a command does beside its move: nothing that is printed, a text, a check of these trees, the
-- values of these terms, those of all constants, the texts of a core of these trees, of which those at
-- these places have texts, or the end
pub data Effect : Type 0 where
  Quiet : Effect
  Text : (text : List ℕ) → Effect
  Check : (trees : List Tree) → Effect
  Values : (terms : List ValueTerm) → Effect
  Whole : Effect
  Core : (trees : List Tree) (texts : Named ℕ) → Effect
  Exit : Effect

-- the next state and the effect, or the fault
abbrev pub Move : Type 0
Move = Result (State × Effect) Fault

abbrev pub quiet : State → Move
quiet s = Ok (s, Quiet)

-- a name that may be declared or defined
abbrev pub fresh : ℕ → State → List ℕ → Result (Unit {0}) Fault
fresh place s name = demand place NameInUse (not (is_taken s name))

-- a name that may be defined as a sort
abbrev pub fresh_sort : ℕ → State → List ℕ → Result (Unit {0}) Fault
fresh_sort place s name = demand place NameInUse (not (is_sort_taken s name))

abbrev pub set_logic : ℕ → State → List ℕ → Move
set_logic place s name =
    demand place Logic (not s.logic && not s.begun && is_logic name) >>= λ _.
    quiet (record s { logic = true })

-- an option has this value, as it is written
abbrev pub with_value : List ℕ → Expr → State → State
with_value key value s = record s { options = (key, spaced value) ∷ s.options }

-- a value that is one of these strings, or not supported
abbrev pub set_channel : ℕ → State → List ℕ → Expr → List (List ℕ) → Move
set_channel place s key value channels =
    shaped place (string_of value) >>= λ text.
    if list_any (bytes_eq text) channels then quiet (with_value key value s) else Ok (s, Text unsupported)

-- nothing was declared, defined or asserted yet, and no level opened
abbrev pub is_untouched : State → Bool
is_untouched s = not s.begun && not s.nested

-- an option that takes this, or none
abbrev pub set_to : ℕ → State → List ℕ → Expr → Option Setting → Move
set_to place s key value (Some setting.Success) = shaped place (truth_of value) >>= λ b. quiet (record (with_value key value s) { success = b })
set_to place s key value (Some setting.Global) =
    shaped place (truth_of value) >>= λ b.
    demand place Form (is_untouched s) >>= λ _.
    quiet (record (with_value key value s) { global = b })
set_to place s key value (Some setting.Truth) = shaped place (truth_of value) >>= λ _. quiet (with_value key value s)
set_to place s key value (Some setting.Numeral) = shaped place (numeral_of value) >>= λ _. quiet (with_value key value s)
set_to place s key value (Some setting.Answers) = set_channel place s key value (standard_output ∷ [])
set_to place s key value (Some setting.Diagnostics) = set_channel place s key value (standard_output ∷ standard_error ∷ [])
set_to place s key value (Some setting.Foreign) = quiet (with_value key value s)
set_to place s key value None = Ok (s, Text unsupported)

abbrev pub set_option : ℕ → State → List ℕ → Expr → Move
set_option place s key value = set_to place s key value (setting_of key)

abbrev pub declare : ℕ → State → List ℕ → Expr → Move
declare place s name sort =
    fresh place s name >>= λ _.
    inside (scoped_sort (scope_of s) sort) >>= λ sort.
    quiet (with_constant name sort s)

abbrev pub define : ℕ → State → List ℕ → List Pair → Expr → Expr → Move
define place s name parameters sort body =
    fresh place s name >>= λ _.
    inside (read_parameters (scope_of s) parameters []) >>= λ xs.
    inside (scoped_sort (scope_of s) sort) >>= λ sort.
    inside (elaborate_body (scope_of s) xs sort body) >>= λ _.
    quiet (with_entry name (definition (scope_of s) xs body) s)

-- the name stands for the sort
abbrev pub define_sort : ℕ → State → List ℕ → Expr → Move
define_sort place s name sort =
    fresh_sort place s name >>= λ _.
    inside (scoped_sort (scope_of s) sort) >>= λ sort.
    quiet (with_entry (sort_key name) (Synonym sort) s)

-- A name of an assertion is a definition without parameters, with the term as its body.
abbrev pub assert_named : ℕ → State → Expr → Expr → List ℕ → Move
assert_named place s whole term name =
    fresh place s name >>= λ _.
    inside (elaborate (scope_of s) term >>= of_sort BoolSort (place_of whole)) >>= λ t.
    quiet (with_entry name (definition (scope_of s) [] term) (with_assertion (record { tree = t; name = Some name }) s))

abbrev pub assert : ℕ → State → Expr → Option (List ℕ) → Expr → Move
assert place s whole (Some name) term = assert_named place s whole term name
assert place s whole None term =
    inside (elaborate_to (scope_of s) BoolSort whole) >>= λ t.
    quiet (with_assertion (record { tree = t; name = None }) s)

-- how many levels may be open
abbrev pub level_limit : ℕ
level_limit = 1000000

abbrev pub push : ℕ → State → ℕ → Move
push place s n = demand place LevelLimit (nat_le (length s.opened + n) level_limit) >>= λ _. quiet (pushed n s)

abbrev pub pop : ℕ → State → ℕ → Move
pop place s n = demand place PopBelow (nat_le n (length s.opened)) >>= λ _. quiet (popped n s)

-- what is in force is checked, and behind it what is assumed, with its terms as they are written where
-- a command assumes
abbrev pub check : State → Option (List (List ℕ)) → List Tree → Move
check s terms assumed = Ok (record (forgetful s) { assumed = assumed; terms = terms }, Check (in_force s ++ assumed))

-- formulas that are assumed
abbrev pub assumptions : State → List Expr → Result (List Tree) Fault
assumptions s [] = Ok []
assumptions s (e ∷ es) = inside (elaborate_to (scope_of s) BoolSort e) >>= λ t. assumptions s es >>= λ ts. Ok (t ∷ ts)

-- values are there where the last answer is sat
abbrev pub has_model : Option Last → Bool
has_model (Some (Sat values)) = true
has_model _ = false

abbrev pub model_there : ℕ → State → Result (Unit {0}) Fault
model_there place s = demand place NoModel (has_model s.last)

-- terms without quantifiers
abbrev pub value_terms : State → List Expr → Result (List ValueTerm) Fault
value_terms s [] = Ok []
value_terms s (e ∷ es) =
    inside (elaborate (scope_of s) e) >>= λ t.
    demand (place_of e) Quantifier (not (is_quantified t)) >>= λ _.
    value_terms s es >>= λ ts.
    Ok (record { text = spaced e; tree = t } ∷ ts)

-- a core is there where the last answer is unsat
abbrev pub has_core : Option Last → Bool
has_core (Some Unsat) = true
has_core _ = false

-- names as they are printed, with the same places
abbrev pub symbols_of : Named ℕ → Named ℕ
symbols_of named = map (λ x. (symbol_text x.0, x.1)) named

-- a core of what the last check was of: some of the assertions that have names, and all else
abbrev pub core_of : ℕ → State → Move
core_of place s = demand place NoCore (has_core s.last) >>= λ _. Ok (s, Core (last_checked s) (symbols_of (named_in_force s)))

-- a core of what the last check was of, where that was a check of assumptions: some of those, and all
-- that is in force
abbrev pub assumed_core_of : ℕ → State → Move
assumed_core_of place s =
    demand place NoCore (has_core s.last && is_some s.terms) >>= λ _.
    Ok (s, Core (last_checked s) (terms_behind s s.terms))
