-- What a script holds in a store for a state of the definitions.
use Rattle.std.specs.Prelude.{◌≡◌, ℕ, ◌-◌, Bool, false, Option, Some, None, option_map, List, [], ◌∷◌, ◌++◌, map, flat_map, length, replicate, reverse, Vec}
use Rattle.std.specs.declared.alloc.Global.{Global}
use Rattle.qv_words.specs.declared.sort.Sort.{Sort}
use Rattle.qv_words.specs.Word.{word_value, sorts_of}
use Rattle.qv_words.specs.Tree.{Tree}
use Rattle.qv_elab_scope.specs.Force.{Force}
pub use Rattle.qv_elab_scope.specs.Ids.{AreAt}
use Rattle.qv_elab_defs.specs.Scopes.{Named, Scope, constants_of}
use Rattle.qv_elab_scope.specs.Kept.{IsScopeIn}
use Rattle.qv_script_stack.specs.declared.held.Declared.{Declared}
use Rattle.qv_script_stack.specs.declared.held.Chosen.{Chosen}
use Rattle.qv_script_stack.specs.declared.held.Level.{Level as Start}
use Rattle.qv_script_stack.specs.declared.held.Named.{Named as NamedAssertion}
use Rattle.qv_script_stack.specs.declared.held.Last.{Last as Answer}
use Rattle.qv_script_stack.specs.declared.held.Last.TheVariants as answer
use Rattle.qv_script_defs.specs.declared.counts.Counts.{Counts}
use Rattle.qv_script_defs.specs.State.{Assertion, Level, State, Last, Sat, Unsat, Unknown, levels, scope_of, in_force, constants}
pub use Rattle.qv_script_defs.specs.State.{name_at, names_from, placed}

-- the ids of the assertions in force and of those that the last check assumed; the named assertions
-- and the constants in force; and how many of each there were when each open level was opened, the
-- outermost first
pub record Held : Type 0 where
  pub force : Force
  pub assertions : List ℕ
  pub named : List NamedAssertion
  pub constants : List Declared
  pub starts : List Start
  pub assumed : List ℕ
  -- the same as it is written, where that was a check of assumptions
  pub terms : Option (Vec (Vec ℕ Global) Global)
  pub logic : Bool
  pub begun : Bool
  pub nested : Bool
  pub success : Bool
  pub global : Bool
  -- the options that were set, the newest last
  pub options : List Chosen
  pub last : Option Answer
  pub counts : Option Counts

-- nothing is held yet
abbrev pub nothing : Held
nothing = record {
  force = record { names = []; kept = []; starts = [] };
  assertions = [];
  named = [];
  constants = [];
  starts = [];
  assumed = [];
  terms = None;
  logic = false;
  begun = false;
  nested = false;
  success = false;
  global = false;
  options = [];
  last = None;
  counts = None;
}

-- the assertions of levels, the innermost level first, in the order in which they were made
abbrev pub asserted : List Level → List Assertion
asserted [] = []
asserted (level ∷ outer) = asserted outer ++ level.assertions

-- the constants and definitions of levels
abbrev pub scope_within : List Level → Scope
scope_within ls = flat_map (λ level. level.scope) ls

-- the names of assertions, with the places of the assertions
abbrev pub named_of : List NamedAssertion → Named ℕ
named_of xs = map (λ x. (x.name.items, x.assertion)) xs

-- what was assumed, as it is written
abbrev pub texts_of : Option (Vec (Vec ℕ Global) Global) → Option (List (List ℕ))
texts_of terms = option_map (λ texts. map (λ t. t.items) texts.items) terms

-- there is a text for each that was assumed, where there are any
abbrev pub HasTexts : List ℕ → Option (Vec (Vec ℕ Global) Global) → Type 0
HasTexts ids (Some texts) = length texts.items ≡ length ids
HasTexts ids None = Unit {0}

-- the texts, where there are any
abbrev pub terms_in : Option (Vec (Vec ℕ Global) Global) → List (Vec ℕ Global)
terms_in (Some texts) = texts.items
terms_in None = []

-- what was assumed, as it is written, with its places behind the assertions
abbrev pub terms_of : Held → Named ℕ
terms_of held = placed (length held.assertions) (map (λ t. t.items) (terms_in held.terms))

abbrev pub declared_of : List Declared → Named Sort
declared_of xs = map (λ x. (x.name.items, x.sort)) xs

-- how many assertions, names of such and constants levels have
abbrev pub size_of : List Level → Start
size_of ls = record { assertions = length (asserted ls); named = length (names_from 0 (asserted ls)); constants = length (constants_of (scope_within ls)) }

-- the same of the levels around each opened one, the outermost first; and how many names they have
abbrev pub sizes_around : List Level → Level → List Start
sizes_around [] bottom = []
sizes_around (level ∷ outer) bottom = sizes_around outer bottom ++ size_of (outer ++ bottom ∷ []) ∷ []

abbrev pub names_around : List Level → Level → List ℕ
names_around [] bottom = []
names_around (level ∷ outer) bottom = names_around outer bottom ++ length (scope_within (outer ++ bottom ∷ [])) ∷ []

-- the options that were set with their values, the newest first
abbrev pub chosen_of : List Chosen → Named (List ℕ)
chosen_of xs = reverse (map (λ x. (x.key.items, x.value.items)) xs)

-- an answer when it was given
abbrev pub answer_of : Answer → Last
answer_of (answer.Sat values) = Sat (map word_value values.items)
answer_of answer.Unsat = Unsat
answer_of (answer.Unknown spent) = Unknown spent

-- Values are kept as they were answered. Constants that were declared behind the answer have 0.
abbrev pub padded : ℕ → List ℕ → List ℕ
padded constants values = values ++ replicate (constants - length values) 0

-- an answer where there are so many constants
abbrev pub answer_for : ℕ → Answer → Last
answer_for constants (answer.Sat values) = Sat (padded constants (map word_value values.items))
answer_for constants answer.Unsat = Unsat
answer_for constants (answer.Unknown spent) = Unknown spent

abbrev pub last_of : ℕ → Option Answer → Option Last
last_of constants (Some a) = Some (answer_for constants a)
last_of constants None = None

-- where values of the constants are answered, they have the constants' sorts
abbrev pub HaveSorts : List Declared → Option Answer → Type 0
HaveSorts constants (Some (answer.Sat values)) = sorts_of values.items ≡ map (λ own. own.sort) constants
HaveSorts constants _ = Unit {0}

-- the same of the constants that there were at the answer
abbrev pub HaveFirstSorts : List Declared → Option Answer → Type 0
HaveFirstSorts constants (Some (answer.Sat values)) = (behind : List Sort) × (map (λ own. own.sort) constants ≡ sorts_of values.items ++ behind)
HaveFirstSorts constants _ = Unit {0}

-- what is held in a store is this state
pub record IsScriptIn (trees : List Tree) (held : Held) (s : State) : Type 0 where
  pub scope : IsScopeIn trees held.force (scope_of s)
  pub names : held.force.starts ≡ names_around s.opened s.bottom
  pub starts : held.starts ≡ sizes_around s.opened s.bottom
  pub assertions : AreAt trees held.assertions (in_force s)
  pub named : named_of held.named ≡ names_from 0 (asserted (levels s))
  pub constants : declared_of held.constants ≡ constants s
  pub logic : held.logic ≡ s.logic
  pub begun : held.begun ≡ s.begun
  pub nested : held.nested ≡ s.nested
  pub success : held.success ≡ s.success
  pub global : held.global ≡ s.global
  pub options : chosen_of held.options ≡ s.options
  pub last : last_of (length held.constants) held.last ≡ s.last
  pub values : HaveFirstSorts held.constants held.last
  pub assumed : AreAt trees held.assumed s.assumed
  pub terms : texts_of held.terms ≡ s.terms
  pub texts : HasTexts held.assumed held.terms
  pub counts : held.counts ≡ s.counts
