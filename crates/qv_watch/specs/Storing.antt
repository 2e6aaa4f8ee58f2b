-- Clauses whose literals stand one behind the other in one list.
use Rattle.std.specs.Prelude.{◌≡◌, ◌≢◌, ℕ, ◌+◌, ◌≤◌, nat_le, Bool, true, if◌then◌else◌, List, [], ◌∷◌, map, length, Some, None, All, slice_get, slice_range, nat_eq, ◌⊎◌}
use Rattle.std.specs.HashMap.{get, HashMap}
use Rattle.std.specs.declared.hash.FoldHasher.{FoldHasher}
use Rattle.std.specs.declared.hash.BuildHasherDefault.{BuildHasherDefault}
use Rattle.qv_cnf.specs.Literal.{Literal}
use Rattle.qv_watch.specs.Attaching.{Stored}
use Rattle.qv_watch.specs.declared.clauses.Slot.{Slot}

-- a slot is live until its end comes before its start
abbrev pub is_live : Slot → Bool
is_live s = nat_le s.start s.end

-- the clause from a slot's start to its end, as long as it is live
abbrev pub stored_in : List Literal → Slot → Stored
stored_in all s = record { id = s.id; lits = if is_live s then Some (slice_range all s.start s.end) else None }

abbrev pub stored_at : List Literal → List Slot → List Stored
stored_at all slots = map (stored_in all) slots

-- the id of the first slot; where there is none, this one
abbrev pub first_or : List Slot → ℕ → ℕ
first_or [] id = id
first_or (s ∷ ss) id = s.id

-- the live slot of the id is this one
abbrev pub HoldsId : List Slot → ℕ → ℕ → Type 0
HoldsId slots id k = (s : Slot) × (slice_get slots k ≡ Some s) × (is_live s ≡ true) × (s.id ≡ id)

-- no live slot is of the id
abbrev pub LacksId : List Slot → ℕ → Type 0
LacksId slots id = (k : ℕ) (s : Slot) → slice_get slots k ≡ Some s → is_live s ≡ true → s.id ≢ id

-- each live slot stands where its id says, counted from the first, or where the map says
abbrev pub AreFound : List Slot → HashMap ℕ ℕ (BuildHasherDefault FoldHasher) → Type 0
AreFound slots places = (k : ℕ) (s : Slot) → slice_get slots k ≡ Some s → is_live s ≡ true → (s.id ≡ first_or slots s.id + k) ⊎ (get nat_eq places s.id ≡ Some k)

-- each slot ends in the list, is found if it is live, and no two that are live have one id
pub record IsStored (all : List Literal) (slots : List Slot) (places : HashMap ℕ ℕ (BuildHasherDefault FoldHasher)) : Type 0 where
  pub inside : All (λ s. s.end ≤ length all) slots
  pub found : AreFound slots places
  pub once : (j k : ℕ) (s t : Slot) → slice_get slots j ≡ Some s → slice_get slots k ≡ Some t → is_live s ≡ true → is_live t ≡ true → s.id ≡ t.id → j ≡ k
