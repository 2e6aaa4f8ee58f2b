-- What the check of a certificate prints that is written anew, and what it writes.
use Rattle.std.specs.Prelude.{◌≤◌, ◌≡◌, ◌⊎◌, ℕ, Option, IfSome, List}
use Rattle.qv_check_defs.specs.Outcome.{outcome}
use Rattle.qv_check_laws.specs.Verdict.{HasNoRefusal}
use Rattle.qv_check_script.specs.BesideLaws.{AnswersHold}
use Rattle.qv_script_transcript.specs.Certificates.{verdict_beside}
use Rattle.qv_check_trim.specs.Trimmed.{AppendsTrimmed, AppendsTrimmedFront, IsTrimmedCert}
use Rattle.qv_check_trim.specs.TrimmedLaws.{IsAcceptedAgain}
use Rattle.qv_shell.specs.Checking.{IsEnd, IsFront, IsShort, IsWhole}

-- beside the script what is written anew is accepted with the same answers, where no line of the
-- certificate is refused
abbrev pub AcceptsTrimmed : (places : ℕ) (script cert : List ℕ) → Type 0
AcceptsTrimmed places script cert =
    (bytes : List ℕ) → HasNoRefusal (verdict_beside places script cert).ending → IsTrimmedCert places script cert bytes → IsAcceptedAgain places script cert bytes

-- A run with this limit on prefixes that ends with this status, where `script` and `cert` are the bytes of its sources, if they
-- tell them, `held` those of the sink of its output, and `kept` those of what is written anew.
pub record IsTrimRun (places : ℕ) (script cert : Option (List ℕ)) (held held' kept kept' : Option (List ℕ)) (status : ℕ) : Type 0 where
  -- it came to its end, or stopped before
  pub ends : IsEnd status ⊎ ((3 ≤ status) × (status ≤ 5))
  -- The text of the verdict on these bytes was printed, whole where the run came to its end, and
  -- otherwise a front of it; where memory was wanting, not all of it.
  pub whole : IsEnd status → IfSome script (λ text. IfSome cert (λ bytes. IsWhole held held' status (outcome places text bytes)))
  pub front : 3 ≤ status → status ≤ 5 → IfSome script (λ text. IfSome cert (λ bytes. IsFront held held' (outcome places text bytes)))
  pub short : status ≡ 5 → IfSome script (λ text. IfSome cert (λ bytes. IsShort held held' (outcome places text bytes)))
  -- The answers that it lists are true of what the script asserts.
  pub answers_hold : IfSome script (λ text. IfSome cert (λ bytes. AnswersHold places text bytes))
  -- The trimmed certificate was written, whole where the run came to its end, and otherwise a front of
  -- it, in which the sections stand whole of the answers that were printed whole.
  pub anew : IsEnd status → IfSome script (λ text. IfSome cert (λ bytes. AppendsTrimmed places text bytes kept kept'))
  pub anew_front : 3 ≤ status → status ≤ 5 → IfSome script (λ text. IfSome cert (λ bytes. AppendsTrimmedFront places text bytes held held' kept kept'))
  -- It is accepted.
  pub accepts : IfSome script (λ text. IfSome cert (λ bytes. AcceptsTrimmed places text bytes))
