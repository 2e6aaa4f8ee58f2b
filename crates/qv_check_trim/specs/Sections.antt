-- Accepted sections in a text, and their answers in what was printed. Public contracts cite
-- `BeginsWithAnswer` and `BeginsWithNoAnswer`.
use Rattle.std.specs.Prelude.{◌≡◌, ◌≢◌, ◌<◌, ◌≤◌, ℕ, Option, List, [], ◌∷◌, ◌++◌, flat_map, drop, length, Ok}
use Rattle.qv_io.specs.Sink.{Appends}
use Rattle.qv_words.specs.declared.op.Answer.{Answer}
use Rattle.qv_cert.specs.Line.{Header}
use Rattle.qv_cert.specs.Grammar.{Reading}
use Rattle.qv_cert.specs.Section.{Task}
use Rattle.qv_check_laws.specs.Verdict.{AcceptedSection}
use Rattle.qv_check_defs.specs.Outcome.{answer_line, outcome}
use Rattle.qv_trim.specs.Sections.{AppendsFront, BeginsWithSection}
use Rattle.qv_check_trim.specs.Trimmed.{AppendsSections, AppendsTrimmed, AreTrimmed, ArePrinted, IsTrimmedCert}

-- a text is the lines of these sections, and behind them comes the rest
abbrev pub StandIn : List AcceptedSection → (text rest : List ℕ) → Type 0
StandIn [] text rest = text ≡ rest
StandIn (s ∷ ss) text rest = (task : Task) × (behind : List ℕ) × BeginsWithSection task s.answer text s.lines behind × StandIn ss behind rest

-- no line of a header was read
abbrev pub IsNoHeader : Reading → Type 0
IsNoHeader read = (version : ℕ) → read ≡ Ok (Header version) → ⊥

-- ---- what was printed

abbrev pub answers_text : List AcceptedSection → List ℕ
answers_text sections = flat_map (λ s. answer_line s.answer) sections

-- a text begins with no answer
abbrev pub BeginsWithNoAnswer : List ℕ → Type 0
BeginsWithNoAnswer text = (answer : Answer) (rest : List ℕ) → text ≡ answer_line answer ++ rest → ⊥

-- it begins with one, which has so many bytes
pub record BeginsWithAnswer (text : List ℕ) (size : ℕ) : Type 0 where
  pub answer : Answer
  pub text_is : text ≡ answer_line answer ++ drop size text
  pub size_is : size ≡ length (answer_line answer)
  pub within : size ≤ length text
  pub some : 0 < size

-- a front of the answers of sections, and of a text behind them that begins with none
pub record IsFrontOfAnswers (sections : List AcceptedSection) (printed : List ℕ) : Type 0 where
  pub last : List ℕ
  pub rest : List ℕ
  pub no_answer : BeginsWithNoAnswer last
  pub front : answers_text sections ++ last ≡ printed ++ rest

-- ---- what was written

-- the first of these sections, trimmed; their answers were printed, and this behind them
pub record WroteFirst (sections : List AcceptedSection) (printed part : List ℕ) (old new : Option (List ℕ)) : Type 0 where
  pub first : List AcceptedSection
  pub left : List AcceptedSection
  pub sections_are : sections ≡ first ++ left
  pub bytes : List ℕ
  pub trimmed : AreTrimmed first bytes
  pub appends : Appends old new bytes
  pub printed_are : printed ≡ answers_text first ++ part

-- those whose answers were printed whole
abbrev pub WrotePrinted : List AcceptedSection → (printed : List ℕ) → (old new : Option (List ℕ)) → Type 0
WrotePrinted sections printed old new = (part : List ℕ) × WroteFirst sections printed part old new × BeginsWithNoAnswer part

-- no more than a front of these sections, trimmed
abbrev pub WroteFront : List AcceptedSection → (old new : Option (List ℕ)) → Type 0
WroteFront sections old new = (whole : List ℕ) → AreTrimmed sections whole → AppendsFront old new whole

-- no more than a front of the trimmed certificate
abbrev pub WroteCertFront : (places : ℕ) (script cert : List ℕ) → (old new : Option (List ℕ)) → Type 0
WroteCertFront places script cert old new = (whole : List ℕ) → IsTrimmedCert places script cert whole → AppendsFront old new whole

-- the sections whose answers were printed; all, where all was printed that there is
pub record WroteKept (places : ℕ) (script cert printed : List ℕ) (old new : Option (List ℕ)) : Type 0 where
  pub whole : (outcome places script cert).text ≡ printed → AppendsTrimmed places script cert old new
  pub front : WroteCertFront places script cert old new
  pub stand : (first : List AcceptedSection) → first ≢ [] → ArePrinted places script cert printed first → AppendsSections cert first old new
