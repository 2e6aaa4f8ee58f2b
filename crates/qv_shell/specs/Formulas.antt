-- What the run comes to that solves a quantified Boolean formula, and the check of a certificate beside one.
use Rattle.std.specs.Prelude.{◌≡◌, ◌≢◌, ◌≤◌, ◌⊎◌, ℕ, Option, IfSome, List}
use Rattle.qv_meter.specs.Records.{Limits, Record}
use Rattle.qv_shell_qdimacs.specs.Checking.{file_outcome}
use Rattle.qv_shell_qdimacs.specs.Laws.{AcceptsSolvedFile, FileAnswersHold}
use Rattle.qv_shell_qdimacs.specs.Solving.{IsFileSolved}
use Rattle.qv_shell.specs.Checking.{IsEnd, IsFront, IsShort, IsWhole}

-- memory ran out before anything was done
pub record IsUnbegun {S : Type 0} (source source' : S) (out out' cert cert' : Option (List ℕ)) (before after : List Record) (status : ℕ) : Type 0 where
  pub memory : status ≡ 5
  pub unread : source' ≡ source
  pub unprinted : out' ≡ out
  pub unkept : cert' ≡ cert
  pub untried : after ≡ before

-- It ends with a status of such runs; what was printed, the certificate and the records are those of one
-- run over the file, or there was none.
pub record IsQSolveRun (places : ℕ) {S : Type 0} (call : S → ℕ → Option (List ℕ) → S → Type 0) (left : S → Option (List ℕ)) (limits : Limits) (source source' : S) (out out' cert cert' : Option (List ℕ)) (before after : List Record) (status : ℕ) : Type 0 where
  pub status_is : (status ≤ 5) × (status ≢ 2)
  pub run : IsFileSolved places call left limits source source' out out' cert cert' before after status ⊎ IsUnbegun source source' out out' cert cert' before after status

-- A check with this limit on prefixes that ends with this status, where `file` and `cert` are the bytes of its sources, if they tell
-- them, and `held` those of its sink.
pub record IsQCheckRun (places : ℕ) (file cert : Option (List ℕ)) (held held' : Option (List ℕ)) (status : ℕ) : Type 0 where
  -- it came to its end, or stopped before
  pub ends : IsEnd status ⊎ ((3 ≤ status) × (status ≤ 5))
  -- The text of its outcome on these bytes was written, whole where it came to its end, and
  -- otherwise a front of it; where memory was wanting, not all of it.
  pub whole : IsEnd status → IfSome file (λ text. IfSome cert (λ bytes. IsWhole held held' status (file_outcome places text bytes)))
  pub front : 3 ≤ status → status ≤ 5 → IfSome file (λ text. IfSome cert (λ bytes. IsFront held held' (file_outcome places text bytes)))
  pub short : status ≡ 5 → IfSome file (λ text. IfSome cert (λ bytes. IsShort held held' (file_outcome places text bytes)))
  -- An answer that it accepts is true of the file.
  pub answers_hold : IfSome file (λ text. IfSome cert (λ bytes. FileAnswersHold places text bytes))
  -- A certificate that `qsolve` wrote whole is accepted, with the same answer.
  pub accepts : IfSome file (λ text. IfSome cert (λ bytes. AcceptsSolvedFile places text bytes))
