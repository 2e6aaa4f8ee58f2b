-- Which literals a clause may watch.
use Rattle.std.specs.Prelude.{◌≡◌, ◌≢◌, ℕ, ◌+◌, ◌-◌, ◌<◌, ◌≤◌, ◌^◌, Bool, true, false, List, Option, Some, None, ◌⊎◌}
use Rattle.std.specs.Option.{option_map}
use Rattle.qv_cnf.specs.Literal.{Literal}
use Rattle.qv_cnf.specs.Refutation.{among}
use Rattle.qv_watch.specs.Entries.{Entry, entry_at, last_level, up_to, value_of, IsAtRest}
use Rattle.qv_watch.specs.Table.{assignment_of, level_in, HasNoTwice, IsStepped}
use Rattle.qv_watch.specs.Watching.{HasTrue, IsCovered}
use Rattle.qv_watch.specs.declared.choosing.Choice.{Choice}
use Rattle.qv_watch.specs.declared.choosing.Choice.TheVariants.{Settled, Watching}

-- the level of a literal's variable, or 0 where it has no value
abbrev pub level_at : List Entry → Literal → ℕ
level_at entries l = level_in (option_map assignment_of (entry_at l.variable entries))

-- the clause is at rest, and so it was at each level below
pub record Rests (entries : List Entry) (lits : List Literal) : Type 0 where
  pub once : HasNoTwice entries
  pub stepped : IsStepped 0 entries
  pub now : IsAtRest entries lits
  pub below : (k : ℕ) → k < last_level entries → IsAtRest (up_to k entries) lits

-- the first isn't false, and where the second is, the first is true and came no later
abbrev pub MayWatch : List Entry → Literal → Literal → Type 0
MayWatch entries a b = (value_of entries a ≢ Some false) × ((value_of entries b ≢ Some false) ⊎ ((value_of entries a ≡ Some true) × (level_at entries a ≤ level_at entries b)))

-- by a literal's value and level: the greatest are true since level 0, then come others that are
-- true, then those without a value, then false ones, by their levels
abbrev pub rank_by : Option Bool → ℕ → ℕ
rank_by (Some true) level = 2 ^ 32 + 2 + (1 - level)
rank_by None level = 2 ^ 32 + 1
rank_by (Some false) level = level + 1

abbrev pub rank_of : List Entry → Literal → ℕ
rank_of entries l = rank_by (value_of entries l) (level_at entries l)

-- a literal of the clause other than one, of which no other is of a greater rank
pub record IsBest (entries : List Entry) (lits : List Literal) (but : Option Literal) (l : Literal) : Type 0 where
  pub own : among lits l ≡ true
  pub apart : but ≢ Some l
  pub most : (x : Literal) → among lits x ≡ true → but ≢ Some x → rank_of entries x ≤ rank_of entries l
  pub low : level_at entries l < 2 ^ 32

-- the clause has no literal but that one
abbrev pub HasNoOther : List Literal → Option Literal → Type 0
HasNoOther lits but = (x : Literal) → among lits x ≡ true → but ≡ Some x

-- a literal of the clause that is covered
abbrev pub IsWatchable : List Entry → List Literal → Literal → Type 0
IsWatchable entries lits w = (among lits w ≡ true) × ((head : ℕ) → IsCovered head entries lits w)

abbrev pub IsChosen : List Entry → List Literal → Choice → Type 0
IsChosen entries lits Settled = HasTrue 0 entries lits
IsChosen entries lits (Watching pair) = (pair.first ≢ pair.second) × IsWatchable entries lits pair.first × IsWatchable entries lits pair.second × (among lits pair.third ≡ true) × (among lits pair.fourth ≡ true)
