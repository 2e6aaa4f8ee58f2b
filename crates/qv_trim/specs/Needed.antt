-- Which lines of a refutation are needed.
use Rattle.std.specs.Prelude.{ℕ, ℤ, unsigned_abs, if◌then◌else◌, List, [], ◌∷◌, map, Contains}
use Rattle.qv_cnf.specs.Literal.{Literal}
use Rattle.qv_cnf.specs.LratLine.{LratLine, Addition, Deletion}
use Rattle.qv_cnf.specs.Refutation.{adds_none}

-- the lines up to the first that adds a clause without literals
abbrev pub up_to_empty : List LratLine → List LratLine
up_to_empty [] = []
up_to_empty (line ∷ lines) = if adds_none line then line ∷ [] else line ∷ up_to_empty lines

-- The ids that are needed among lines: that of a clause without literals, and each that the line of a
-- needed one names in a hint of either sign.
pub data IsNeeded (lines : List LratLine) : ℕ → Type 0 where
  empty : (id : ℕ) (hints : List ℤ) → Contains lines (Addition id [] hints) → IsNeeded lines id
  named : (id hinted : ℕ) (lits : List Literal) (hints : List ℤ) →
      IsNeeded lines id → Contains lines (Addition id lits hints) → Contains (map unsigned_abs hints) hinted → IsNeeded lines hinted

-- what is kept of lines, in their order: the additions of needed ids, and all deletions
pub data KeepsNeeded (needed : ℕ → Type 0) : (lines kept : List LratLine) → Type 0 where
  nothing : KeepsNeeded needed [] []
  keeps : (id : ℕ) (lits : List Literal) (hints : List ℤ) (lines kept : List LratLine) →
      needed id → KeepsNeeded needed lines kept → KeepsNeeded needed (Addition id lits hints ∷ lines) (Addition id lits hints ∷ kept)
  drops : (id : ℕ) (lits : List Literal) (hints : List ℤ) (lines kept : List LratLine) →
      (needed id → ⊥) → KeepsNeeded needed lines kept → KeepsNeeded needed (Addition id lits hints ∷ lines) kept
  deletes : (id : ℕ) (ids : List ℕ) (lines kept : List LratLine) →
      KeepsNeeded needed lines kept → KeepsNeeded needed (Deletion id ids ∷ lines) (Deletion id ids ∷ kept)

-- a refutation's lines, trimmed
abbrev pub IsTrimmed : (lines kept : List LratLine) → Type 0
IsTrimmed lines kept = KeepsNeeded (IsNeeded (up_to_empty lines)) (up_to_empty lines) kept
