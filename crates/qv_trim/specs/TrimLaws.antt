-- What pins trimming down.
use Rattle.std.specs.Prelude.{◌≡◌, ℕ, List, map}
use Rattle.qv_words.specs.declared.op.Answer.{Answer}
use Rattle.qv_cnf.specs.Listing.{Numbered}
use Rattle.qv_cnf.specs.LratLine.{LratLine}
use Rattle.qv_cnf.specs.Refutation.{Refutes}
use Rattle.qv_cert.specs.Line.{CertLine}
use Rattle.qv_cert.specs.Section.{Task}
use Rattle.qv_cert.specs.Shown.{IsSection}
use Rattle.qv_cert.specs.Spelling.{cert_text}
use Rattle.qv_trim.specs.Needed.{IsTrimmed}
use Rattle.qv_trim.specs.Sections.{IsTrimmedSection}

-- what is kept of a refutation refutes the same clauses
abbrev pub KeptLinesRefute : Type 0
KeptLinesRefute = (live : List Numbered) (lines kept : List LratLine) → Refutes live lines → IsTrimmed lines kept → Refutes live kept

-- there is one way to trim
abbrev pub TrimmedAreOne : Type 0
TrimmedAreOne = (lines one other : List LratLine) → IsTrimmed lines one → IsTrimmed lines other → one ≡ other

-- lines can always be trimmed
abbrev pub LinesCanBeTrimmed : Type 0
LinesCanBeTrimmed = (lines : List LratLine) → (kept : List LratLine) × IsTrimmed lines kept

-- and so can each accepted section
abbrev pub SectionsCanBeTrimmed : Type 0
SectionsCanBeTrimmed =
    (task : Task) (answer : Answer) (texts : List (List ℕ)) →
    IsSection task answer texts → (trimmed : List CertLine) × IsTrimmedSection answer texts trimmed

-- the trimmed section, as it is printed, is one of the same answer
abbrev pub TrimmedSectionsStand : Type 0
TrimmedSectionsStand =
    (task : Task) (answer : Answer) (texts : List (List ℕ)) (trimmed : List CertLine) →
    IsSection task answer texts → IsTrimmedSection answer texts trimmed → IsSection task answer (map cert_text trimmed)
