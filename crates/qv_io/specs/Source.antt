-- What a source means: the bytes that are left, where it tells them.
use Rattle.std.specs.Prelude.{◌≡◌, ℕ, ◌<◌, ◌≤◌, List, [], ◌++◌, length, take, drop, Some, None, Ok, Err, is_some, IfSome}
use Rattle.std.specs.Option.{option_map}
use Rattle.std.specs.declared.option.Option.{Option}
use Rattle.std.specs.declared.result.Result.{Result}

-- the source gave these bytes, in order: told bytes began with them and are now what stood behind
-- them, and bytes that weren't told still aren't
abbrev pub Gives : Option (List ℕ) → Option (List ℕ) → List ℕ → Type 0
Gives old new bytes = old ≡ option_map (λ rest. bytes ++ rest) new

-- bytes that are told stay told, and bytes that aren't stay untold
abbrev pub TellsAsBefore : Option (List ℕ) → Option (List ℕ) → Type 0
TellsAsBefore old new = is_some new ≡ is_some old

-- the bytes that a call put at the front of a buffer, which is now as here, or none where the call
-- failed
abbrev pub given : {E : Type 0} → Result ℕ E → List ℕ → Option (List ℕ)
given (Ok n) buf = Some (take n buf)
given (Err error) buf = None

-- where the bytes are told, none is left
abbrev pub IsAtEnd : Option (List ℕ) → Type 0
IsAtEnd left = IfSome left (λ bytes. bytes ≡ [])

-- a read of n bytes into a buffer: the source gave what stands at the buffer's front, and, where it
-- tells its bytes, the rest of the buffer is as before; none is given into a buffer with room only
-- at the end
pub record Reads (old new : Option (List ℕ)) (n : ℕ) (before after : List ℕ) : Type 0 where
  pub within : n ≤ length before
  pub gives : Gives old new (take n after)
  pub rest : IfSome old (λ _. drop n after ≡ drop n before)
  pub end : n ≡ 0 → 0 < length before → IsAtEnd old
