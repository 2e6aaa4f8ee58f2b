-- What is written of a certificate that is trimmed beside its script.
use Rattle.std.specs.Prelude.{◌≡◌, ◌≢◌, ℕ, Option, List, [], ◌∷◌, ◌++◌, flat_map, Ok}
use Rattle.qv_io.specs.Sink.{Appends}
use Rattle.qv_cert.specs.Line.{CertLine, Header}
use Rattle.qv_cert.specs.Grammar.{Reading}
use Rattle.qv_cert.specs.Text.{text_of, first_line}
use Rattle.qv_cert.specs.Spelling.{cert_text}
use Rattle.qv_check_laws.specs.Verdict.{AcceptedSection}
use Rattle.qv_check_defs.specs.Outcome.{answer_line}
use Rattle.qv_script_transcript.specs.Certificates.{verdict_beside}
use Rattle.qv_trim.specs.Sections.{AppendsFront, IsTrimmedSection}

-- the bytes of accepted sections, each trimmed, and each of its lines as it is printed
abbrev pub AreTrimmed : List AcceptedSection → (bytes : List ℕ) → Type 0
AreTrimmed [] bytes = bytes ≡ []
AreTrimmed (s ∷ ss) bytes =
    (trimmed : List CertLine) × (rest : List ℕ) × IsTrimmedSection s.answer s.lines trimmed
    × (bytes ≡ flat_map cert_text trimmed ++ rest) × AreTrimmed ss rest

-- the line of the version, where a certificate's first line is a header
abbrev pub head_read : Reading → List ℕ
head_read (Ok (Header version)) = cert_text (Header version)
head_read _ = []

abbrev pub head_among : List (List ℕ) → List ℕ
head_among [] = []
head_among (line ∷ lines) = head_read (first_line line)

abbrev pub head : (cert : List ℕ) → List ℕ
head cert = head_among (text_of cert).lines

-- A trimmed certificate: the first line, where it was accepted, and behind it each section that was
-- accepted, trimmed.
pub record IsTrimmedCert (places : ℕ) (script cert bytes : List ℕ) : Type 0 where
  pub behind : List ℕ
  pub trimmed : AreTrimmed (verdict_beside places script cert).sections behind
  pub bytes_are : bytes ≡ head cert ++ behind

-- all of it was written
abbrev pub AppendsTrimmed : (places : ℕ) (script cert : List ℕ) → (old new : Option (List ℕ)) → Type 0
AppendsTrimmed places script cert old new = (bytes : List ℕ) × IsTrimmedCert places script cert bytes × Appends old new bytes

-- ---- what is written where it isn't known to be all

-- these are the first sections that were accepted, and what was printed begins with their answers
pub record ArePrinted (places : ℕ) (script cert printed : List ℕ) (first : List AcceptedSection) : Type 0 where
  pub others : List AcceptedSection
  pub first_are : (verdict_beside places script cert).sections ≡ first ++ others
  pub rest : List ℕ
  pub printed_are : printed ≡ flat_map (λ s. answer_line s.answer) first ++ rest

-- behind the first line these were written, trimmed, and perhaps more
pub record AppendsSections (cert : List ℕ) (first : List AcceptedSection) (old new : Option (List ℕ)) : Type 0 where
  pub behind : List ℕ
  pub rest : List ℕ
  pub trimmed : AreTrimmed first behind
  pub appends : Appends old new (head cert ++ (behind ++ rest))

-- A front of the trimmed certificate was written, in which the sections stand whole of the answers
-- that were printed whole.
pub record AppendsTrimmedFront (places : ℕ) (script cert : List ℕ) (held held' old new : Option (List ℕ)) : Type 0 where
  pub whole : List ℕ
  pub trimmed : IsTrimmedCert places script cert whole
  pub front : AppendsFront old new whole
  pub printed : List ℕ
  pub prints : Appends held held' printed
  pub stand : (first : List AcceptedSection) → first ≢ [] → ArePrinted places script cert printed first → AppendsSections cert first old new
