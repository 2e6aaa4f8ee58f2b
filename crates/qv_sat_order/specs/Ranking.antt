-- Variables by their activity.
use Rattle.std.specs.Prelude.{◌≡◌, ◌≢◌, ◌⊎◌, ℕ, ◌+◌, ◌-◌, ◌/◌, ◌^◌, ◌<◌, ◌≤◌, nat_lt, if◌then◌else◌, Bool, true, false, List, [], ◌++◌, length, map, min, replicate, slice_index_or, slice_set}

-- of the variables from 1 on, whether each is held, and its activity; and by how much a bump makes
-- one more active
pub record Ranking : Type 0 where
  pub held : List Bool
  pub activity : List ℕ
  pub increment : ℕ

abbrev pub no_ranking : Ranking
no_ranking = record { held = []; activity = []; increment = 2 ^ 20 }

abbrev pub is_held : List Bool → ℕ → Bool
is_held held v = slice_index_or held (v - 1) false

abbrev pub activity_of : List ℕ → ℕ → ℕ
activity_of activity v = slice_index_or activity (v - 1) 0

-- one variable comes before another where it is more active, or as active and of a greater number
abbrev pub ComesBefore : List ℕ → ℕ → ℕ → Type 0
ComesBefore activity v w = (activity_of activity w < activity_of activity v) ⊎ ((activity_of activity w ≡ activity_of activity v) × (w < v))

-- a variable that is held and comes before each other one that is
pub record IsFirst (r : Ranking) (v : ℕ) : Type 0 where
  pub from : 1 ≤ v
  pub to : v ≤ length r.held
  pub held : is_held r.held v ≡ true
  pub first : (w : ℕ) → 1 ≤ w → is_held r.held w ≡ true → w ≢ v → ComesBefore r.activity v w

-- no variable is held
abbrev pub HoldsNone : Ranking → Type 0
HoldsNone r = (v : ℕ) → 1 ≤ v → is_held r.held v ≡ false

-- the variable is held, or isn't
abbrev pub with_held : Ranking → ℕ → Bool → Ranking
with_held r v b = record { held = slice_set r.held (v - 1) b; activity = r.activity; increment = r.increment }

-- with all variables up to a number: those that are new are held, and were never active
abbrev pub with_room : Ranking → ℕ → Ranking
with_room r n = record { held = r.held ++ replicate (n - length r.held) true; activity = r.activity ++ replicate (n - length r.held) 0; increment = r.increment }

-- the variable's activity is greater by the increment, but at most 2 ^ 64 - 1
abbrev pub bumped : Ranking → ℕ → Ranking
bumped r v = record { held = r.held; activity = slice_set r.activity (v - 1) (min (activity_of r.activity v + r.increment) (2 ^ 64 - 1)); increment = r.increment }

-- the increment grows by a nineteenth; from 2 ^ 58 on, it and all activities are divided by 2 ^ 38
abbrev pub decayed : Ranking → Ranking
decayed r =
    if nat_lt r.increment (2 ^ 58)
    then record { held = r.held; activity = r.activity; increment = r.increment + r.increment / 19 }
    else record { held = r.held; activity = map (λ a. a / 2 ^ 38) r.activity; increment = r.increment / 2 ^ 38 }
