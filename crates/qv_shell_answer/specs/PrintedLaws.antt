-- The lines of a section as they stand in a text.
use Rattle.std.specs.Prelude.{◌≡◌, List, All, map}
use Rattle.std.specs.List.{flat_map}
use Rattle.qv_words.specs.declared.op.Answer.{Answer}
use Rattle.qv_cert.specs.Line.{CertLine, IsCertLine}
use Rattle.qv_cert.specs.Spelling.{cert_text}
use Rattle.qv_cert.specs.TextLaws.{HasNoLf, bytes_of_lines}
use Rattle.qv_cert.specs.Section.{Task}
use Rattle.qv_cert.specs.Shown.{IsSection}
use Rattle.qv_solve_section.specs.Sections.{IsSectionOf, variables_in}
use Rattle.qv_script_transcript.specs.Certificates.{variables_of}
use Rattle.qv_script_transcript.specs.PrintedLines.{line_text}

-- the lines of a section are one as they stand in a text, of the same clauses, and what is printed for
-- them is its bytes
pub record StandAsSection (task : Task) (answer : Answer) (lines : List CertLine) (own : IsSectionOf task answer lines) : Type 0 where
  pub section : IsSection task answer (map line_text lines)
  pub counted : variables_of task answer (map line_text lines) section ≡ variables_in task answer lines own
  pub apart : All HasNoLf (map line_text lines)
  pub bytes : flat_map cert_text lines ≡ bytes_of_lines (map line_text lines)

abbrev pub PrintedSectionsStand : Type 0
PrintedSectionsStand =
    (task : Task) (answer : Answer) (lines : List CertLine) (own : IsSectionOf task answer lines) → All IsCertLine lines → StandAsSection task answer lines own
