-- Calls that are made again where a signal interrupted them.
use Rattle.std.specs.Prelude.{◌≡◌, ◌≢◌, ◌⊎◌, ℕ, Result, Err, IfErr, IsErrAnd}
use Rattle.std.specs.IoError.{error_kind}
use Rattle.std.specs.declared.io.Error.{Error}
use Rattle.std.specs.declared.io.ErrorKind.TheVariants.{Interrupted, TimedOut}

-- In what follows `call` says what one call makes of what it is made of.

-- calls, one after another, each of which was interrupted
pub data WasInterrupted {S : Type 0} (call : S → Result ℕ Error → S → Type 0) (old : S) : S → Type 0 where
  no_call : WasInterrupted call old old
  one_more : (now : S) (why : Error) (new : S) → WasInterrupted call old now → call now (Err why) new → error_kind why ≡ Interrupted → WasInterrupted call old new

-- and then one that wasn't, with this result; or there were too many
abbrev pub Again : {S : Type 0} → (S → Result ℕ Error → S → Type 0) → S → Result ℕ Error → S → Type 0
Again {S} call old result new =
    ((now : S) × WasInterrupted call old now × call now result new × IfErr result (λ why. error_kind why ≢ Interrupted))
    ⊎ (WasInterrupted call old new × IsErrAnd result (λ why. error_kind why ≡ TimedOut))
