-- What the lines of a section are for.
use Rattle.std.specs.Prelude.{◌≡◌, ℕ, ◌+◌, List, ◌++◌, length, map, All}
use Rattle.qv_words.specs.declared.op.Answer.{Answer}
use Rattle.qv_cert.specs.Line.{CertLine, IsCertLine}
use Rattle.qv_cert.specs.Spelling.{cert_text}
use Rattle.qv_cert.specs.Section.{Task, section_judged, AcceptedUpTo}
use Rattle.qv_solve_section.specs.Sections.{IsSectionOf}

-- the lines of a section, where their numbers are in their ranges, are accepted as they are
-- printed, and no line behind them is taken
abbrev pub PrintedSectionsAreAccepted : Type 0
PrintedSectionsAreAccepted =
    (task : Task) (answer : Answer) (n : ℕ) (lines : List CertLine) (behind : List (List ℕ)) → IsSectionOf task answer lines → All IsCertLine lines →
    section_judged task n (map cert_text lines ++ behind) ≡ AcceptedUpTo answer (n + length lines) behind
