-- What was taken of a source, told or not, and where the limit on its bytes was met.
use Rattle.std.specs.Prelude.{◌≡◌, ℕ, ◌+◌, ◌≤◌, Option, IfSome, IsSomeAnd, List, length}
use Rattle.qv_sexpr.specs.Limits.{read_limit}
use Rattle.qv_sexpr.specs.Causes.{Gave}

-- In what follows `call` says what one call makes of a source, and `left` the bytes that it has
-- left, where it tells them.

-- as many bytes were taken as the limit allows, and the source had them, where it tells its bytes
pub record MetLimit {S : Type 0} (call : S → ℕ → Option (List ℕ) → S → Type 0) (left : Option (List ℕ)) (source source' : S) : Type 0 where
  pub taken : List ℕ
  pub gave : Gave call source taken source'
  pub limit : read_limit ≤ length taken
  pub told : IfSome left (λ text. read_limit ≤ length text)

-- calls gave bytes: so many more were taken, and a source that tells its bytes had them
pub record Takes {S : Type 0} (call : S → ℕ → Option (List ℕ) → S → Type 0) (left : S → Option (List ℕ)) (taken : ℕ) (source : S) (taken' : ℕ) (later : S) : Type 0 where
  pub bytes : List ℕ
  pub gave : Gave call source bytes later
  pub counted : taken' ≡ taken + length bytes
  pub told : IfSome (left source) (λ text. IsSomeAnd (left later) (λ rest. length bytes + length rest ≤ length text))

-- up to the limit
abbrev pub TakesToLimit : {S : Type 0} → (S → ℕ → Option (List ℕ) → S → Type 0) → (S → Option (List ℕ)) → ℕ → S → S → Type 0
TakesToLimit call left taken source later = (taken' : ℕ) × Takes call left taken source taken' later × (read_limit ≤ taken')
