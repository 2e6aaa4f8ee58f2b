-- Reads from a source, one after another.
use Rattle.std.proofs.Common.{◌≡◌, ℕ, List, [], ◌++◌, ◌+◌, ap, refl, Some, ◌<◌, ◌≤◌, length, take, drop}
use Rattle.std.proofs.lemmas.List.{take_at, drop_at, take-append-drop, drop-drop}
use Rattle.qv_io.specs.Source.{Reads}

-- a read that puts the first of the told bytes over the front of the buffer
pub Reads-told : (left rest before front : List ℕ) (n : ℕ) → left ≡ front ++ rest → length front ≡ n → n ≤ length before → (n ≡ 0 → 0 < length before → left ≡ []) → Reads (Some left) (Some rest) n before (front ++ drop n before)
Reads-told left rest before front n split size within at_end = record {
  within = within;
  gives = ap Some (rw (take_at front (drop n before) n size) split);
  rest = drop_at front (drop n before) n size;
  end = at_end;
}

-- the next n bytes behind those given, and then the others
pub drop-split : (bytes : List ℕ) (given n : ℕ) → drop given bytes ≡ take n (drop given bytes) ++ drop (given + n) bytes
drop-split bytes given n = rw (← drop-drop n given bytes) (rw take-append-drop refl)
