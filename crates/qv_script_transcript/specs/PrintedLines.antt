-- Printed lines as they stand in a text, each without its LF.
use Rattle.std.specs.Prelude.{◌≡◌, ℕ, true, Ok, List, [], ◌∷◌, ◌++◌}
use Rattle.qv_lrat_text.specs.Grammar.{without_lf}
use Rattle.qv_cert.specs.Line.{CertLine, End, IsCertLine}
use Rattle.qv_cert.specs.Grammar.{cert_line}
use Rattle.qv_cert.specs.Spelling.{cert_text, is_step}
use Rattle.qv_cert.specs.TextLaws.{HasNoLf}

abbrev pub line_text : CertLine → List ℕ
line_text line = without_lf (cert_text line)

-- what is printed for a line is one line of a text, and reads there as the same line
pub record StandsAsLine (line : CertLine) : Type 0 where
  pub ends : cert_text line ≡ line_text line ++ 10 ∷ []
  pub apart : HasNoLf (line_text line)
  pub reads : cert_line (is_step line) (line_text line) ≡ Ok line

abbrev pub PrintedLinesStand : Type 0
PrintedLinesStand = ((line : CertLine) → IsCertLine line → StandsAsLine line) × (cert_line true (line_text End) ≡ Ok End)
