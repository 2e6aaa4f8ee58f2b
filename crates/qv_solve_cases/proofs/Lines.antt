-- Each line of a section can be printed.
use Rattle.std.proofs.Common.{List, [], ◌∷◌}
use Rattle.std.specs.Prelude.{All}
use Rattle.std.specs.List.{AllByRecursion}
use Rattle.std.proofs.lemmas.List.Elements.{All-from_recursion, recursion_from_All}
use Rattle.qv_cert.specs.declared.line.Line.{Line}
use Rattle.qv_cert.specs.Line.{IsCertLine}
use Rattle.qv_cert.specs.LineView.{cert_line_of}
use Rattle.qv_solve_write.specs.Said.{lines_said}

-- what a line has that can be printed
abbrev pub IsPrintable : Line → Type 0
IsPrintable line = IsCertLine (cert_line_of line)

unmapped : (lines : List Line) → AllByRecursion IsCertLine (lines_said lines) → AllByRecursion IsPrintable lines
unmapped [] h = tt
unmapped (line ∷ lines) h = (h.0, unmapped lines h.1)

pub each-line : (lines : List Line) → All IsCertLine (lines_said lines) → All IsPrintable lines
each-line lines h = All-from_recursion IsPrintable lines (unmapped lines (recursion_from_All IsCertLine (lines_said lines) h))
