-- What a sink means: the bytes that it holds, where it tells them.
use Rattle.std.specs.Prelude.{◌≡◌, ℕ, ◌<◌, ◌≤◌, List, ◌++◌, length, take}
use Rattle.std.specs.Option.{option_map}
use Rattle.std.specs.declared.option.Option.{Option}

-- told bytes grew by these at their end, and bytes that weren't told still aren't
abbrev pub Appends : Option (List ℕ) → Option (List ℕ) → List ℕ → Type 0
Appends old new bytes = new ≡ option_map (λ held. held ++ bytes) old

-- told bytes grew by the first bytes of a piece, but not by all of it
abbrev pub AppendsPart : Option (List ℕ) → Option (List ℕ) → List ℕ → Type 0
AppendsPart old new piece = (n : ℕ) × (n < length piece) × Appends old new (take n piece)

-- a write of n bytes of a piece: the sink took the first n of it, and at least one of a piece that
-- isn't empty
pub record Writes (old new : Option (List ℕ)) (n : ℕ) (piece : List ℕ) : Type 0 where
  pub within : n ≤ length piece
  pub some : 0 < length piece → 0 < n
  pub appends : Appends old new (take n piece)
