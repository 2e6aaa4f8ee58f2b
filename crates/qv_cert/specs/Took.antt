-- What a reader took of a source, whether the source tells its bytes or not.
use Rattle.std.specs.Prelude.{◌≡◌, ◌≢◌, ℕ, ◌+◌, Option, Some, None, List, [], ◌++◌, All, length}
use Rattle.qv_io.specs.Source.{Gives}
use Rattle.qv_cert.specs.declared.kind.RefusalKind.{RefusalKind}
use Rattle.qv_cert.specs.declared.kind.RefusalKind.TheVariants as kind
use Rattle.qv_cert.specs.declared.answers.CertNext.{CertNext}
use Rattle.qv_cert.specs.declared.answers.CertNext.TheVariants as next
use Rattle.qv_cert.specs.TextLaws.{HasNoLf, bytes_of_lines}
use Rattle.qv_cert.specs.CertReader.{Position, piece_size}

-- In what follows `call` says what one call makes of a source, and `left` the bytes that it has
-- left, where it tells them. Each call asks for `piece_size` bytes.

-- calls, one after another, and the bytes that they gave in all
pub data Gave {S : Type 0} (call : S → ℕ → Option (List ℕ) → S → Type 0) (source : S) : List ℕ → S → Type 0 where
  gave_none : Gave call source [] source
  gave_more : (bytes : List ℕ) (now : S) (more : List ℕ) (later : S) → Gave call source bytes now → call now piece_size (Some more) later → Gave call source (bytes ++ more) later

-- Calls gave bytes: so many more were taken, they were the next ones where bytes are told, and
-- behind those that were there before they are these.
pub record Took {S : Type 0} (call : S → ℕ → Option (List ℕ) → S → Type 0) (left : S → Option (List ℕ)) (rest : List ℕ) (taken : ℕ) (source : S) (whole : List ℕ) (taken' : ℕ) (later : S) : Type 0 where
  pub bytes : List ℕ
  pub gave : Gave call source bytes later
  pub counted : taken' ≡ taken + length bytes
  pub told : Gives (left source) (left later) bytes
  pub whole_is : rest ++ bytes ≡ whole

-- Calls gave bytes which, behind those that were there before, are whole lines, each with its LF,
-- and what is behind them. The last of the lines has this number.
pub record TookLines {S : Type 0} (call : S → ℕ → Option (List ℕ) → S → Type 0) (left : S → Option (List ℕ)) (old : Position) (source : S) (number : ℕ) (behind : List ℕ) (taken' : ℕ) (later : S) : Type 0 where
  pub lines : List (List ℕ)
  pub each : All HasNoLf lines
  pub number_is : number ≡ old.given + length lines
  pub took : Took call left old.rest old.taken source (bytes_of_lines lines ++ behind) taken' later

-- whatever is behind the lines
abbrev pub TookSome : {S : Type 0} → (S → ℕ → Option (List ℕ) → S → Type 0) → (S → Option (List ℕ)) → Position → S → ℕ → ℕ → S → Type 0
TookSome call left old source number taken' later = (behind : List ℕ) × TookLines call left old source number behind taken' later

-- and then a call failed
abbrev pub FailsBehind : {S : Type 0} → (S → ℕ → Option (List ℕ) → S → Type 0) → (S → Option (List ℕ)) → Position → S → ℕ → ℕ → S → Type 0
FailsBehind {S} call left old source number taken' later = (now : S) × TookSome call left old source number taken' now × call now piece_size None later

-- up to the line of this number, behind which the rest begins, unless the bytes end before its LF
abbrev pub TookToLine : {S : Type 0} → (S → ℕ → Option (List ℕ) → S → Type 0) → (S → Option (List ℕ)) → Position → S → ℕ → RefusalKind → Position → S → Type 0
TookToLine call left old source number k new later =
    TookSome call left old source new.given new.taken later × (k ≢ kind.Truncated → TookLines call left old source number new.rest new.taken later)

-- what was taken before an answer; of that want of memory says nothing
abbrev pub TookNext : {S : Type 0} → (S → ℕ → Option (List ℕ) → S → Type 0) → (S → Option (List ℕ)) → Position → S → CertNext → Position → S → Type 0
TookNext call left old source (next.Line number line) new later = TookLines call left old source new.given new.rest new.taken later
TookNext call left old source (next.End number) new later = TookSome call left old source new.given new.taken later
TookNext call left old source (next.Fault number k) new later = TookToLine call left old source number k new later
TookNext call left old source next.ReadFault new later = FailsBehind call left old source new.given new.taken later
TookNext call left old source next.ReadLimit new later = TookSome call left old source new.given new.taken later
TookNext call left old source next.NoMemory new later = Unit {0}
