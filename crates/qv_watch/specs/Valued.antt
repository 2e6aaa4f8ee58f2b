-- What the values of a trail keep.
use Rattle.std.specs.Prelude.{◌≡◌, ℕ, ◌≤◌, ◌<◌, ◌^◌, Bool, List, length, Option}
use Rattle.qv_cnf.specs.Literal.{Literal}
use Rattle.qv_watch.specs.Entries.{last_level}
use Rattle.qv_watch.specs.Table.{entries_of, ArePlaced, ArePlacesFor, IsTable, IsTold, IsStepped}
use Rattle.qv_watch.specs.declared.values.Assigned.{Assigned}

-- the tables and the order agree, there is memory for a value of each variable, and the level is
-- that of the last
pub record IsValued (truths : List (Option Bool)) (vars : List (Option Assigned)) (order : List Literal) (positions : List ℕ) (capacity level : ℕ) : Type 0 where
  pub told : IsTold truths (entries_of vars order)
  pub places : ArePlacesFor (length vars) (length truths)
  pub table : IsTable vars order
  pub placed : ArePlaced positions order
  pub wide : length vars ≤ length positions
  pub enough : length vars ≤ capacity
  pub few : length vars < 2 ^ 32
  pub present : level ≡ last_level (entries_of vars order)
  pub stepped : IsStepped 0 (entries_of vars order)
