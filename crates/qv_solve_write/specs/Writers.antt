-- Lines while they are written.
use Rattle.std.specs.Prelude.{List, All}
use Rattle.std.specs.List.{AllByRecursion}
use Rattle.qv_words.specs.Tree.{Tree}
use Rattle.qv_store.specs.Walks.{IsWalk, named}
use Rattle.qv_cert.specs.Line.{CertLine, IsCertLine}
use Rattle.qv_solve_write.specs.declared.writer.Writer.{Writer}
use Rattle.qv_solve_write.specs.Ranges.{IsInRange}
use Rattle.qv_solve_write.specs.Said.{lines_said}

-- the nodes that have lines
abbrev pub nodes_of : List Tree → Writer → List Tree
nodes_of trees w = named trees w.walk

abbrev pub lines_of : Writer → List CertLine
lines_of w = lines_said w.lines.items

-- the nodes are a walk's, and may be written; the lines are lines of the format
pub record IsWriting (trees : List Tree) (w : Writer) : Type 0 where
  pub walk : IsWalk trees w.walk
  pub nodes : AllByRecursion IsInRange (nodes_of trees w)
  pub form : All IsCertLine (lines_of w)
