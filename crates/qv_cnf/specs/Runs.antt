-- Rising ids by their runs: ids with no gap between them.
use Rattle.std.specs.Prelude.{◌≡◌, ◌≢◌, ℕ, zero, suc, ◌+◌, ◌<◌, ◌≤◌, ◌^◌, true, false, List, [], ◌∷◌, ◌++◌, length, take, drop, Some, All, slice_get}
use Rattle.std.specs.List.{AllByRecursion}
use Rattle.qv_cnf.specs.declared.numbering.Run.{Run}
use Rattle.qv_cnf.specs.declared.numbering.Spot.{Spot}

-- so many ids from this one on
abbrev pub ids_from : ℕ → ℕ → List ℕ
ids_from first zero = []
ids_from first (suc n) = first ∷ ids_from (first + 1) n

-- the ids of runs
abbrev pub ids_of : List Run → List ℕ
ids_of [] = []
ids_of (r ∷ rs) = ids_from r.first r.count ++ ids_of rs

-- the ids of the runs are at least the bound and rise, and each run knows its place, the first of
-- them this one
abbrev pub AreRuns : ℕ → ℕ → List Run → Type 0
AreRuns low at [] = Unit {0}
AreRuns low at (r ∷ rs) = (low ≤ r.first) × (r.at ≡ at) × AreRuns (r.first + r.count) (at + r.count) rs

-- runs with ids, and behind them the last, which may have none
pub record IsNumbering (before : List Run) (last : Run) : Type 0 where
  pub runs : AreRuns 0 0 (before ++ last ∷ [])
  pub filled : AllByRecursion (λ r. 0 < r.count) before
  pub few : last.at + last.count < 2 ^ 61

-- the runs begin above an id
abbrev pub AreAbove : ℕ → List Run → Type 0
AreAbove id [] = Unit {0}
AreAbove id (r ∷ rs) = id < r.first

-- where an id stands among rising ids, or would
pub record IsSpot (ids : List ℕ) (id : ℕ) (s : Spot) : Type 0 where
  pub within : s.at ≤ length ids
  pub front : All (λ other. other < id) (take s.at ids)
  pub rest : All (λ other. id ≤ other) (drop s.at ids)
  pub there : s.taken ≡ true → slice_get ids s.at ≡ Some id
  pub free : s.taken ≡ false → All (λ other. other ≢ id) ids
