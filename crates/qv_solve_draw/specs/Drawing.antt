-- What lines list that begin a section.
use Rattle.std.specs.Prelude.{List, All}
use Rattle.qv_words.specs.declared.op.Answer.{Answer}
use Rattle.qv_words.specs.Tree.{Tree}
use Rattle.qv_words.specs.Problem.{Problem}
use Rattle.qv_cert.specs.Line.{IsCertLine}
use Rattle.qv_cert.specs.Listed.{listed_by}
use Rattle.qv_cert.specs.Shown.{IsListOf}
use Rattle.qv_cert_nodes.specs.Pushing.{Lists}
use Rattle.qv_solve_write.specs.declared.writing.Writing.{Writing}
use Rattle.qv_solve_write.specs.Said.{lines_said}
use Rattle.qv_solve_write_laws.specs.WritingLaws.{AreLinesOf}

-- the lines are lines of the format that may begin a section of this answer, without a fault, and
-- they list a proof's first part, which stands beside them
pub record IsListing (trees : List Tree) (p : Problem) (answer : Answer) (w : Writing) : Type 0 where
  pub form : All IsCertLine (lines_said w.lines.items)
  pub lawful : AreLinesOf p answer (lines_said w.lines.items)
  pub section : IsListOf p answer (listed_by p (lines_said w.lines.items))
  pub listed : Lists trees p w.listed (listed_by p (lines_said w.lines.items))
