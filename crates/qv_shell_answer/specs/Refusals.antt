-- What the checker of a section is given.
use Rattle.std.specs.Prelude.{◌≡◌, ℕ, None, List, [], ◌∷◌, All}
use Rattle.qv_words.specs.declared.op.Answer.{Answer}
use Rattle.qv_words.specs.Tree.{Tree}
use Rattle.qv_cert.specs.TextLaws.{HasNoLf, bytes_of_lines}
use Rattle.qv_cert.specs.Shown.{IsSection}
use Rattle.qv_cert.specs.CertReader.{Position}
use Rattle.qv_check_laws.specs.AnswerLaws.{task_of}
use Rattle.qv_script_transcript.specs.Certificates.{header_line}

-- the lines are a section of an answer, for the check of this number
pub record AreSection (formulas : List Tree) (number : ℕ) (lines : List (List ℕ)) : Type 0 where
  pub answer : Answer
  pub section : IsSection (task_of formulas number 2) answer lines
  pub apart : All HasNoLf lines

-- the bytes are those of such lines
abbrev pub IsSectionText : List Tree → ℕ → List ℕ → Type 0
IsSectionText formulas number bytes = (lines : List (List ℕ)) × AreSection formulas number lines × (bytes ≡ bytes_of_lines lines)

-- they are a certificate with such lines alone
abbrev pub StandsAlone : List Tree → ℕ → List ℕ → Type 0
StandsAlone formulas number bytes = (lines : List (List ℕ)) × AreSection formulas number lines × (bytes ≡ bytes_of_lines (header_line ∷ lines))

-- a reader that nothing happened to
abbrev pub fresh : Position
fresh = record { rest = []; taken = 0; given = 0; version = 0; stopped = None }
