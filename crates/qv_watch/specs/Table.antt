-- The values of variables in a table.
use Rattle.std.specs.Prelude.{◌≡◌, ℕ, ◌+◌, ◌*◌, ◌-◌, ◌<◌, ◌≤◌, Bool, List, [], ◌∷◌, length, map, slice_get, slice_index_or, Option, Some, None, All}
use Rattle.std.specs.Option.{option_map}
use Rattle.qv_cnf.specs.Literal.{Literal, index_of}
use Rattle.qv_watch.specs.Entries.{Entry, entry_at, value_of}
use Rattle.qv_watch.specs.declared.values.Assigned.{Assigned}

-- the variables from 1 to the room may have values; the entries, the oldest first
pub record Entered : Type 0 where
  pub room : ℕ
  pub entries : List Entry

abbrev pub level_in : Option Assigned → ℕ
level_in None = 0
level_in (Some a) = a.level

abbrev pub reason_in : Option Assigned → Option ℕ
reason_in None = None
reason_in (Some a) = a.reason

-- the entry of a literal, by what the table has of its variable
abbrev pub entered_by : Literal → Option Assigned → Entry
entered_by lit found = record { lit = lit; level = level_in found; reason = reason_in found }

-- what the table has of a variable
abbrev pub assigned_to : List (Option Assigned) → ℕ → Option Assigned
assigned_to vars v = slice_index_or vars (v - 1) None

-- the entries of the literals in the order
abbrev pub entries_of : List (Option Assigned) → List Literal → List Entry
entries_of vars order = map (λ l. entered_by l (assigned_to vars l.variable)) order

-- what the table has of an entry's variable
abbrev pub assignment_of : Entry → Assigned
assignment_of e = record { positive = e.lit.positive; level = e.level; reason = e.reason }

-- no two entries are of one variable
abbrev pub HasNoTwice : List Entry → Type 0
HasNoTwice [] = Unit {0}
HasNoTwice (e ∷ es) = (entry_at e.lit.variable es ≡ None) × HasNoTwice es

-- how many variables have a value
abbrev pub filled : List (Option Assigned) → ℕ
filled [] = 0
filled (None ∷ vars) = filled vars
filled (Some a ∷ vars) = filled vars + 1

-- the table has the value of each variable that has an entry, and no other
pub record IsTable (vars : List (Option Assigned)) (order : List Literal) : Type 0 where
  pub within : All (λ l. (1 ≤ l.variable) × (l.variable ≤ length vars)) order
  pub once : HasNoTwice (entries_of vars order)
  pub each : (v : ℕ) → 1 ≤ v → v ≤ length vars → assigned_to vars v ≡ option_map assignment_of (entry_at v (entries_of vars order))
  pub counted : filled vars ≡ length order

-- the table has, at each literal's variable, where the literal stands in the order
abbrev pub ArePlaced : List ℕ → List Literal → Type 0
ArePlaced positions order = (k : ℕ) (l : Literal) → slice_get order k ≡ Some l → slice_get positions (l.variable - 1) ≡ Some k

-- the table has, at each literal's place, what the literal is
abbrev pub IsTold : List (Option Bool) → List Entry → Type 0
IsTold truths entries = (l : Literal) → slice_index_or truths (index_of l) None ≡ value_of entries l

-- a table of this length has the places of the literals of variables up to this one
abbrev pub ArePlacesFor : ℕ → ℕ → Type 0
ArePlacesFor last n = (v : ℕ) → 1 ≤ v → v ≤ last → 2 * v + 1 < n

-- the level of one more literal: one that was assumed opens a level
abbrev pub level_after : ℕ → Option ℕ → ℕ
level_after level None = level + 1
level_after level (Some id) = level

-- levels rise by steps of one
abbrev pub IsStepped : ℕ → List Entry → Type 0
IsStepped level [] = Unit {0}
IsStepped level (e ∷ es) = (level ≤ e.level) × (e.level ≤ level + 1) × IsStepped e.level es
