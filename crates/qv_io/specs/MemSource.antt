-- A source over memory, as contracts see it.
use Rattle.std.specs.Prelude.{◌≡◌, ℕ, List, ◌++◌, length, min, Option, Some, None, Contains}
use Rattle.qv_io.specs.Count.{next_count}

pub record MemSourceState : Type 0 where
  -- the bytes that are left
  pub left : List ℕ
  -- how many bytes a call gives at most
  pub piece : ℕ
  -- the numbers of the calls that fail
  pub failing : List ℕ
  -- how many calls were made
  pub calls : ℕ
  -- how many calls failed
  pub faults : ℕ

-- one call of `read` gave the next bytes, as many as the buffer's room, the piece and what is left
-- allow, or failed where it was told to
abbrev pub ReadGives : MemSourceState → ℕ → Option (List ℕ) → MemSourceState → Type 0
ReadGives old room None new =
    Contains old.failing (next_count old.calls) × (new ≡ record old { calls = next_count old.calls; faults = next_count old.faults })
ReadGives old room (Some bytes) new =
    ¬ (Contains old.failing (next_count old.calls)) × (length bytes ≡ min room (min old.piece (length old.left))) × (old.left ≡ bytes ++ new.left) × (new ≡ record old { left = new.left; calls = next_count old.calls })
