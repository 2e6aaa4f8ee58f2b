-- What was taken of a source. No public contract cites this.
use Rattle.std.specs.Prelude.{◌≡◌, ℕ, ◌<◌, Bool, true, false, Option, Some, List, [], ◌++◌, length}
use Rattle.qv_io.specs.Source.{Gives, IsAtEnd}
use Rattle.qv_sexpr.specs.Causes.{Gave}
use Rattle.qv_sexpr.specs.Limits.{piece_size}

-- calls gave these bytes
pub record TookBytes {S : Type 0} (call : S → ℕ → Option (List ℕ) → S → Type 0) (left : S → Option (List ℕ)) (source : S) (bytes : List ℕ) (later : S) : Type 0 where
  pub gave : Gave call source bytes later
  pub gives : Gives (left source) (left later) bytes

-- a call gave a piece, which stands behind the others; at the source's end that is nothing
pub record TakesPiece {S : Type 0} (call : S → ℕ → Option (List ℕ) → S → Type 0) (left : S → Option (List ℕ)) (more : Bool) (old : List ℕ) (source : S) (new : List ℕ) (later : S) : Type 0 where
  pub piece : List ℕ
  pub bytes_are : new ≡ old ++ piece
  pub called : call source piece_size (Some piece) later
  pub gives : Gives (left source) (left later) piece
  pub some : more ≡ true → 0 < length piece
  pub end : more ≡ false → IsAtEnd (left source)
  pub none : more ≡ false → piece ≡ []
