-- What pins trimmed certificates down.
use Rattle.std.specs.Prelude.{◌≡◌, ℕ, List}
use Rattle.qv_check_laws.specs.Verdict.{HasNoRefusal, answers_of}
use Rattle.qv_script_transcript.specs.Certificates.{verdict_beside}
use Rattle.qv_check_trim.specs.Trimmed.{IsTrimmedCert}

-- beside its script a trimmed certificate has the same answers, and ends as the certificate does, where
-- no line of that is refused
pub record IsAcceptedAgain (places : ℕ) (script cert bytes : List ℕ) : Type 0 where
  pub answers : answers_of (verdict_beside places script bytes) ≡ answers_of (verdict_beside places script cert)
  pub ending : (verdict_beside places script bytes).ending ≡ (verdict_beside places script cert).ending

abbrev pub TrimmedAreAccepted : Type 0
TrimmedAreAccepted =
    (places : ℕ) (script cert bytes : List ℕ) → HasNoRefusal (verdict_beside places script cert).ending →
    IsTrimmedCert places script cert bytes → IsAcceptedAgain places script cert bytes

-- each certificate can be trimmed beside each script
abbrev pub CertsCanBeTrimmed : Type 0
CertsCanBeTrimmed = (places : ℕ) (script cert : List ℕ) → (bytes : List ℕ) × IsTrimmedCert places script cert bytes

-- and in one way
abbrev pub CertsAreTrimmedOnce : Type 0
CertsAreTrimmedOnce = (places : ℕ) (script cert one other : List ℕ) → IsTrimmedCert places script cert one → IsTrimmedCert places script cert other → one ≡ other
