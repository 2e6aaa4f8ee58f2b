-- What a trail has, and what every trail keeps.
use Rattle.std.specs.Prelude.{◌≡◌, ℕ, ◌+◌, ◌<◌, ◌≤◌, List, [], ◌++◌, take, Option, Some, None, All, IsSome, slice_get}
use Rattle.qv_cnf.specs.Listing.{Numbered}
use Rattle.qv_cnf.specs.Literal.{Literal, IsLiteral}
use Rattle.qv_cnf.specs.declared.readings.Reading.TheVariants.{Falsified, Forced}
use Rattle.qv_watch.specs.Entries.{Entry, value_of, last_level, up_to, says, IsAtRest, IsSettled}
use Rattle.qv_watch.specs.declared.propagation.Propagated.{Propagated}
use Rattle.qv_watch.specs.declared.propagation.Propagated.TheVariants.{Quiet, Conflict}

-- the variables from 1 to the room may have values; the attached clauses; the true literals, the
-- oldest first; the present level; and what propagation answered last, as long as no call since
-- took that back
pub record TrailState : Type 0 where
  pub room : ℕ
  pub clauses : List Numbered
  pub entries : List Entry
  pub level : ℕ
  pub answer : Option Propagated

-- an assumed literal opens a level; another comes at the level of the one before it, from a clause
-- that was unit
abbrev pub Comes : List Numbered → List Entry → Literal → ℕ → Option ℕ → Type 0
Comes clauses before lit level None = level ≡ last_level before + 1
Comes clauses before lit level (Some id) = (level ≡ last_level before) × (says clauses before id ≡ Forced lit)

-- an entry that may stand behind these: its variable has room, and had no value
pub record MayFollow (room : ℕ) (clauses : List Numbered) (before : List Entry) (e : Entry) : Type 0 where
  pub literal : IsLiteral e.lit
  pub has_room : e.lit.variable ≤ room
  pub fresh : value_of before e.lit ≡ None
  pub comes : Comes clauses before e.lit e.level e.reason

-- each entry may stand behind those before it
abbrev pub IsGrown : ℕ → List Numbered → List Entry → Type 0
IsGrown room clauses entries = (k : ℕ) (e : Entry) → slice_get entries k ≡ Some e → MayFollow room clauses (take k entries) e

-- what propagation answered holds of the clauses on the trail
abbrev pub Holds : List Numbered → List Entry → Option Propagated → Type 0
Holds clauses entries None = Unit {0}
Holds clauses entries (Some Quiet) = IsSettled clauses entries
Holds clauses entries (Some (Conflict id)) = says clauses entries id ≡ Falsified

-- the clauses' variables have room
abbrev pub AllHaveRoom : ℕ → List Numbered → Type 0
AllHaveRoom room clauses = All (λ c. All (λ l. l.variable ≤ room) c.lits) clauses

-- what every trail keeps; at the levels below the present one no clause is unit or false
pub record IsTrail (t : TrailState) : Type 0 where
  pub grown : IsGrown t.room t.clauses t.entries
  pub level : t.level ≡ last_level t.entries
  pub settled : (k : ℕ) → k < t.level → IsSettled t.clauses (up_to k t.entries)
  pub answer : Holds t.clauses t.entries t.answer
  pub has_room : AllHaveRoom t.room t.clauses

-- no clause, no literal
abbrev pub empty_trail : TrailState
empty_trail = record { room = 0; clauses = []; entries = []; level = 0; answer = None }

-- a clause that may be attached: at each level below the present one it is at rest under the values
-- that came at levels up to that
abbrev pub IsAtRestBelow : TrailState → List Literal → Type 0
IsAtRestBelow t lits = (k : ℕ) → k < t.level → IsAtRest (up_to k t.entries) lits

-- a conflict isn't kept where a clause is taken away
abbrev pub without_conflict : Option Propagated → Option Propagated
without_conflict None = None
without_conflict (Some Quiet) = Some Quiet
without_conflict (Some (Conflict id)) = None

-- the trail went on, at this level, by literals that came from clauses
pub record Continues (level : ℕ) (old new : List Entry) : Type 0 where
  pub more : List Entry
  pub behind : new ≡ old ++ more
  pub each : All (λ e. (e.level ≡ level) × IsSome e.reason) more
