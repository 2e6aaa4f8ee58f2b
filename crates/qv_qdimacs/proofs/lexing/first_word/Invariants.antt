-- the lines passed over are comments
use Rattle.std.proofs.Common.{◌≡◌, ◌≤◌, ◌-◌, length}
use Rattle.qv_dimacs.specs.Clauses.{no_comments}
use Rattle.qv_qdimacs.specs.Ahead.{lines_at}
use Rattle.qv_qdimacs.proofs.lexing.first_word.Given as goal

abbrev pub invariant-lines : goal.invariant-lines
invariant-lines l = record {
  within : l.line ≤ length l.text;
  further : l.fn.at ≤ l.line;
  lines : no_comments (lines_at l.text l.fn.at) ≡ no_comments (lines_at l.text l.line);
}

abbrev pub decreases-lines : goal.decreases-lines
decreases-lines l = length l.text - l.line
