-- What the certificates of transcripts are for.
use Rattle.std.specs.Prelude.{◌≡◌, ◌⊎◌, ℕ, List, [], ◌++◌, All, flat_map, codes}
use Rattle.qv_cert.specs.TextLaws.{HasNoLf, bytes_of_lines}
use Rattle.qv_cert.specs.Text.{text_of}
use Rattle.qv_check_laws.specs.Verdict.{HasNoRefusal}
use Rattle.qv_script_defs.specs.Texts.{line}
use Rattle.qv_check_defs.specs.Outcome.{outcome}
use Rattle.qv_script_transcript.specs.Lawful.{answer_line}
use Rattle.qv_script_transcript.specs.Following.{IsTranscriptOf}
use Rattle.qv_script_transcript.specs.Certificates.{Certified, AreCertified, IsAcceptedBeside, checks_of, certificate, verdict_beside}

-- sections of a transcript's checks, in their order, make a certificate that is accepted
abbrev pub CertificatesAreAccepted : Type 0
CertificatesAreAccepted =
    (places : ℕ) (script out : List ℕ) (cs : List Certified) (status : ℕ) →
    IsTranscriptOf places script (checks_of cs) out status → AreCertified 1 cs →
    IsAcceptedBeside places script (certificate cs) cs out status

-- what the check of a certificate prints last: `accepted`, or the script's own fault
abbrev pub PrintsLast : (status : ℕ) (out last : List ℕ) → Type 0
PrintsLast status out last = ((status ≡ 0) × (last ≡ line (codes "accepted"))) ⊎ ((status ≡ 1) × ((front : List ℕ) × (out ≡ front ++ last)))

-- The check of such a certificate prints the same answers, and ends with the same status.
pub record ChecksSo (places : ℕ) (script cert : List ℕ) (cs : List Certified) (out : List ℕ) (status : ℕ) : Type 0 where
  pub accepted : HasNoRefusal (verdict_beside places script cert).ending
  pub status_is : (outcome places script cert).status ≡ status
  pub last : List ℕ
  pub text_is : (outcome places script cert).text ≡ flat_map (λ c. answer_line c.check.answer) cs ++ last
  pub ends : PrintsLast status out last

abbrev pub AcceptedCertificatesCheck : Type 0
AcceptedCertificatesCheck =
    (places : ℕ) (script cert out : List ℕ) (cs : List Certified) (status : ℕ) → IsAcceptedBeside places script cert cs out status → ChecksSo places script cert cs out status

-- the bytes of lines are these lines
abbrev pub LinesAreTheirText : Type 0
LinesAreTheirText = (lines : List (List ℕ)) → All HasNoLf lines → text_of (bytes_of_lines lines) ≡ record { lines = lines; rest = [] }
