-- What the check of a certificate beside its script writes and reads.
use Rattle.std.specs.Prelude.{◌≡◌, ◌≢◌, ◌≤◌, ◌++◌, ◌⊎◌, ℕ, Option, IfSome, List, []}
use Rattle.qv_io.specs.Sink.{Appends}
use Rattle.qv_check_defs.specs.Outcome.{Outcome, outcome}
use Rattle.qv_check_script.specs.BesideLaws.{AnswersHold}
use Rattle.qv_check_script.specs.Reading.{ReadsBeside}
use Rattle.qv_shell_follow.specs.Solved.{AcceptsSolved}

-- all that it comes to was written, and this is its status
abbrev pub IsWhole : (held held' : Option (List ℕ)) → (status : ℕ) → Outcome → Type 0
IsWhole held held' status o = (status ≡ o.status) × Appends held held' o.text

-- a front of it was written
abbrev pub IsFront : (held held' : Option (List ℕ)) → Outcome → Type 0
IsFront held held' o = (written rest : List ℕ) × (o.text ≡ written ++ rest) × Appends held held' written

-- and not all of it
abbrev pub IsShort : (held held' : Option (List ℕ)) → Outcome → Type 0
IsShort held held' o = (written rest : List ℕ) × (o.text ≡ written ++ rest) × (rest ≢ []) × Appends held held' written

-- It came to its end: it was done, the script has a fault, or the certificate is refused.
abbrev pub IsEnd : ℕ → Type 0
IsEnd status = (status ≤ 1) ⊎ (status ≡ 6)

-- A check with this limit on prefixes that ends with this status, where `script` and `cert` are the bytes of its sources, if they
-- tell them, and `held` those of its sink; `call` says what one call makes of the script's source, and
-- `cert_unread` that the certificate's gave no more.
pub record IsCheckRun (places : ℕ) {S : Type 0} (call : S → ℕ → Option (List ℕ) → S → Type 0) (cert_unread : Type 0) (script cert : Option (List ℕ)) (source source' : S) (held held' : Option (List ℕ)) (status : ℕ) : Type 0 where
  -- it came to its end, or stopped before
  pub ends : IsEnd status ⊎ ((3 ≤ status) × (status ≤ 5))
  -- The text of the verdict on these bytes was written, whole where the check came to its end, and
  -- otherwise a front of it; where memory was wanting, not all of it.
  pub whole : IsEnd status → IfSome script (λ text. IfSome cert (λ bytes. IsWhole held held' status (outcome places text bytes)))
  pub front : 3 ≤ status → status ≤ 5 → IfSome script (λ text. IfSome cert (λ bytes. IsFront held held' (outcome places text bytes)))
  pub short : status ≡ 5 → IfSome script (λ text. IfSome cert (λ bytes. IsShort held held' (outcome places text bytes)))
  -- The answers that it lists are true of what the script asserts.
  pub answers_hold : IfSome script (λ text. IfSome cert (λ bytes. AnswersHold places text bytes))
  -- A certificate that `solve` wrote whole is accepted, with the same answers.
  pub accepts : IfSome script (λ text. IfSome cert (λ bytes. AcceptsSolved places text bytes))
  -- how far the script was read
  pub reading : ReadsBeside places call cert_unread source script held held' status source'
