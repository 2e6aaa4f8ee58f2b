-- Which variables a decision may be taken from.
use Rattle.std.specs.Prelude.{◌≡◌, ◌≢◌, ℕ, ◌+◌, ◌<◌, ◌≤◌, Bool, true, false, List, [], ◌∷◌, None, Some, All, length, slice_get}
use Rattle.qv_sat_order.specs.Ranking.{is_held}
use Rattle.qv_watch.specs.Entries.{Entry, entry_at}

-- each variable that has no value is held, and no other has one
pub record Covers (held : List Bool) (entries : List Entry) : Type 0 where
  pub each : (v : ℕ) → 1 ≤ v → v ≤ length held → entry_at v entries ≡ None → is_held held v ≡ true
  pub within : All (λ e. e.lit.variable ≤ length held) entries

-- the same but for one variable
abbrev pub CoversBut : ℕ → List Bool → List Entry → Type 0
CoversBut u held entries = (v : ℕ) → 1 ≤ v → v ≤ length held → v ≢ u → entry_at v entries ≡ None → is_held held v ≡ true

-- all variables have values
abbrev pub AllValued : List Bool → List Entry → Type 0
AllValued held entries = (v : ℕ) → 1 ≤ v → v ≤ length held → entry_at v entries ≢ None

-- no fewer are held, and those of the literals above a level are
pub record Releases (level : ℕ) (entries : List Entry) (old new : List Bool) : Type 0 where
  pub long : length new ≡ length old
  pub kept : (v : ℕ) → is_held old v ≡ true → is_held new v ≡ true
  pub released : (k : ℕ) (e : Entry) → slice_get entries k ≡ Some e → level < e.level → is_held new e.lit.variable ≡ true

-- how many are held
abbrev pub held_in : List Bool → ℕ
held_in [] = 0
held_in (true ∷ held) = held_in held + 1
held_in (false ∷ held) = held_in held
