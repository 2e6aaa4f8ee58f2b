-- A tournament of variables, in a tree that lies in a table: below the place i stand the places 2 i
-- and 2 i + 1, and behind the table's places those of the variables.
use Rattle.std.specs.Prelude.{◌≡◌, ◌≢◌, ◌⊎◌, ℕ, zero, suc, ◌+◌, ◌-◌, ◌*◌, ◌/◌, ◌^◌, ◌<◌, ◌≤◌, ◌==◌, nat_lt, if◌then◌else◌, Bool, false, List, length, slice_index_or}
use Rattle.qv_sat_order.specs.Ranking.{activity_of}

-- the variable at a place behind the table, if it is held; 0 is none
abbrev pub leaf_at : List Bool → ℕ → ℕ
leaf_at held k = if slice_index_or held k false then k + 1 else 0

-- the variable at a place
abbrev pub entrant_at : List ℕ → List Bool → ℕ → ℕ
entrant_at nodes held place = if nat_lt place (length nodes) then slice_index_or nodes place 0 else leaf_at held (place - length nodes)

-- a number that is greater the earlier the variable comes, and 0 for none
abbrev pub rank_of : List ℕ → ℕ → ℕ
rank_of activity v = if v == 0 then 0 else activity_of activity v * 2 ^ 32 + v

abbrev pub first_of : List ℕ → ℕ → ℕ → ℕ
first_of activity v w = if nat_lt (rank_of activity v) (rank_of activity w) then w else v

-- a place has the first of the two below it
abbrev pub IsPlayed : List ℕ → List Bool → List ℕ → ℕ → Type 0
IsPlayed nodes held activity i = slice_index_or nodes i 0 ≡ first_of activity (entrant_at nodes held (2 * i)) (entrant_at nodes held (2 * i + 1))

-- the tables are of one length, and have no other variables
pub record IsDrawn (nodes : List ℕ) (held : List Bool) (activity : List ℕ) : Type 0 where
  pub wide : length nodes ≡ length held
  pub same : length activity ≡ length held
  pub few : length held < 2 ^ 32
  pub within : (k : ℕ) → slice_index_or nodes k 0 ≤ length held

-- each place but one was played, or each from one on
abbrev pub ArePlayedBut : List ℕ → List Bool → List ℕ → ℕ → Type 0
ArePlayedBut nodes held activity i = (j : ℕ) → 1 ≤ j → j < length nodes → j ≢ i → IsPlayed nodes held activity j

abbrev pub ArePlayedFrom : List ℕ → List Bool → List ℕ → ℕ → Type 0
ArePlayedFrom nodes held activity i = (j : ℕ) → i ≤ j → 1 ≤ j → j < length nodes → IsPlayed nodes held activity j

-- all were played
pub record IsTournament (nodes : List ℕ) (held : List Bool) (activity : List ℕ) : Type 0 where
  pub drawn : IsDrawn nodes held activity
  pub played : ArePlayedFrom nodes held activity 0

-- so many places up
abbrev pub up : ℕ → ℕ → ℕ
up zero place = place
up (suc k) place = up k place / 2

-- a variable stands at each place above its leaf, up to this one
pub record Stands (nodes : List ℕ) (leaf v place : ℕ) : Type 0 where
  pub steps : ℕ
  pub is : up steps leaf ≡ place
  pub each : (k : ℕ) → 1 ≤ k → k ≤ steps → slice_index_or nodes (up k leaf) 0 ≡ v

-- and not at the next
pub record StandsUpTo (nodes : List ℕ) (leaf v top : ℕ) : Type 0 where
  pub stands : Stands nodes leaf v top
  pub ends : (top ≤ 1) ⊎ (slice_index_or nodes (top / 2) 0 ≢ v)

-- each place but the one above was played, and there who stands meets the variable
pub record IsRaising (nodes : List ℕ) (held : List Bool) (activity : List ℕ) (v place : ℕ) : Type 0 where
  pub played : ArePlayedBut nodes held activity (place / 2)
  pub meets : 1 < place → first_of activity (entrant_at nodes held (2 * (place / 2))) (entrant_at nodes held (2 * (place / 2) + 1)) ≡ first_of activity (slice_index_or nodes (place / 2) 0) v
