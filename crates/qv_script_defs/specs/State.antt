-- What a script has made so far.
use Rattle.std.specs.Prelude.{ℕ, suc, ◌||◌, if◌then◌else◌, Bool, true, false, is_some, Option, Some, None, option_map, List, [], ◌∷◌, ◌++◌, map, reverse, length, flat_map, replicate, take, drop, codes}
use Rattle.std.specs.Str.{bytes_eq}
use Rattle.std.specs.List.{list_any}
use Rattle.qv_words.specs.declared.sort.Sort.{Sort}
use Rattle.qv_words.specs.Tree.{Tree}
use Rattle.qv_elab_defs.specs.Sorts.{is_sort_name}
use Rattle.qv_elab_defs.specs.Scopes.{Entry, Constant, Named, Scope, constants_of, found, sort_key}
use Rattle.qv_sorts.specs.Search.{operator_named}
use Rattle.qv_script_defs.specs.declared.faults.SpentWord.{SpentWord}
use Rattle.qv_script_defs.specs.declared.counts.Counts.{Counts}

-- an asserted tree, and its name if it has one
pub record Assertion : Type 0 where
  pub tree : Tree
  pub name : Option (List ℕ)

-- a level of the stack: its assertions in order, and its declarations and definitions, the newest
-- first
pub record Level : Type 0 where
  pub assertions : List Assertion
  pub scope : Scope

abbrev pub empty : Level
empty = record { assertions = []; scope = [] }

-- an answer: sat with a value for each constant in force, by its index; unknown with what was spent
pub data Last : Type 0 where
  Sat : (values : List ℕ) → Last
  Unsat : Last
  Unknown : (spent : SpentWord) → Last

pub record State : Type 0 where
  -- the level that is always there, and the levels opened by push, the innermost first
  pub bottom : Level
  pub opened : List Level
  -- whether a logic was set, and whether anything was ever declared, defined or asserted, since the
  -- start or `reset`
  pub logic : Bool
  pub begun : Bool
  -- whether a level was ever opened, since then
  pub nested : Bool
  pub success : Bool
  -- whether declarations and definitions outlive their levels
  pub global : Bool
  -- what options were set to, as it is written, the newest first
  pub options : Named (List ℕ)
  pub last : Option Last
  -- what the last check assumed, until its answer is forgotten
  pub assumed : List Tree
  -- the same as it is written, where that was a check of assumptions
  pub terms : Option (List (List ℕ))
  -- what the last check was charged for, if there was one
  pub counts : Option Counts

-- where a script begins
abbrev pub opening : State
opening = record { bottom = empty; opened = []; logic = false; begun = false; nested = false; success = false; global = false; options = []; last = None; assumed = []; terms = None; counts = None }

-- the levels, the innermost first
abbrev pub levels : State → List Level
levels s = s.opened ++ s.bottom ∷ []

-- the constants and definitions in force, the newest first
abbrev pub scope_of : State → Scope
scope_of s = flat_map (λ level. level.scope) (levels s)

-- the assertions in force, in their order
abbrev pub assertions_of : State → List Assertion
assertions_of s = flat_map (λ level. level.assertions) (reverse (levels s))

-- the trees in force, in the order of their assertion
abbrev pub in_force : State → List Tree
in_force s = map (λ a. a.tree) (assertions_of s)

-- the names of assertions with their places, where the first assertion has this place
abbrev pub name_at : ℕ → Option (List ℕ) → Named ℕ
name_at n (Some name) = (name, n) ∷ []
name_at n None = []

abbrev pub names_from : ℕ → List Assertion → Named ℕ
names_from n [] = []
names_from n (a ∷ rest) = name_at n a.name ++ names_from (suc n) rest

-- the assertions in force that have names: those, and their places among all in force
abbrev pub named_in_force : State → Named ℕ
named_in_force s = names_from 0 (assertions_of s)

abbrev pub places_of : Named ℕ → List ℕ
places_of named = map (λ x. x.1) named

-- texts with their places, where the first one has this place
abbrev pub placed : ℕ → List (List ℕ) → Named ℕ
placed n [] = []
placed n (text ∷ rest) = (text, n) ∷ placed (suc n) rest

-- what the last check assumed, as it is written, with its places behind all that is in force
abbrev pub terms_behind : State → Option (List (List ℕ)) → Named ℕ
terms_behind s (Some terms) = placed (length (in_force s)) terms
terms_behind s None = []

-- what the last check was of, until its answer is forgotten: what is in force, and behind it what was
-- assumed
abbrev pub last_checked : State → List Tree
last_checked s = in_force s ++ s.assumed

-- the constants in force, in the order of their declaration
abbrev pub constants : State → Named Sort
constants s = constants_of (scope_of s)

-- whether a name may not be declared or defined
abbrev pub is_taken : State → List ℕ → Bool
is_taken s name =
    is_some (found name (scope_of s)) || is_some (operator_named name)
    || list_any (bytes_eq name) (codes "distinct" ∷ codes "true" ∷ codes "false" ∷ [])

-- whether a name may not be defined as a sort
abbrev pub is_sort_taken : State → List ℕ → Bool
is_sort_taken s name = is_some (found (sort_key name) (scope_of s)) || is_sort_name name

-- the state with its innermost level changed
abbrev pub changed_at : (Level → Level) → State → List Level → State
changed_at change s [] = record s { bottom = change s.bottom }
changed_at change s (level ∷ outer) = record s { opened = change level ∷ outer }

-- The last answer is forgotten where assertions or levels are added or removed, and what was assumed
-- for it.
abbrev pub forgetful : State → State
forgetful s = record s { last = None; assumed = []; terms = None }

-- something is added to the innermost level
abbrev pub added : (Level → Level) → State → State
added change s = record (changed_at change s s.opened) { begun = true }

abbrev pub with_entry : List ℕ → Entry → State → State
with_entry name entry = added (λ level. record level { scope = (name, entry) ∷ level.scope })

abbrev pub with_assertion : Assertion → State → State
with_assertion a s = forgetful (added (λ level. record level { assertions = level.assertions ++ a ∷ [] }) s)

-- an answer for one constant more, which has the value 0 or false
abbrev pub longer : Last → Last
longer (Sat values) = Sat (values ++ 0 ∷ [])
longer Unsat = Unsat
longer (Unknown spent) = Unknown spent

-- A constant's index is the number of constants in force before it.
abbrev pub with_constant : List ℕ → Sort → State → State
with_constant name sort s = record (with_entry name (Constant (length (constants s)) sort) s) { last = option_map longer s.last }

-- n levels more, and n levels fewer
abbrev pub pushed : ℕ → State → State
pushed n s = record (forgetful s) { opened = replicate n empty ++ s.opened; nested = true }

-- what stays of scopes whose levels go: all, where declarations and definitions are global
abbrev pub kept_of : Bool → Scope → Scope
kept_of global scope = if global then scope else []

-- the scopes of the n innermost levels
abbrev pub innermost : ℕ → State → Scope
innermost n s = flat_map (λ level. level.scope) (take n s.opened)

-- a level with these in front of what it has
abbrev pub in_front : Scope → Level → Level
in_front scope level = record level { scope = scope ++ level.scope }

abbrev pub popped : ℕ → State → State
popped n s = forgetful (changed_at (in_front (kept_of s.global (innermost n s))) (record s { opened = drop n s.opened }) (drop n s.opened))

-- without levels and assertions, and without declarations and definitions that aren't global
abbrev pub emptied : State → State
emptied s = record (forgetful s) { bottom = record { assertions = []; scope = kept_of s.global (scope_of s) }; opened = [] }

-- a check has this answer, and was charged for so much
abbrev pub answered : Last → Counts → State → State
answered last counts s = record s { last = Some last; counts = Some counts }

-- where it doesn't matter what was counted
abbrev pub no_counts : Counts
no_counts = record { conflicts = 0; instances = 0; variables = 0 }
