-- the clauses so far
use Rattle.std.proofs.Common.{◌≡◌, ◌≤◌, ◌-◌, [], length}
use Rattle.qv_qdimacs.specs.Text.{clauses_from}
use Rattle.qv_qdimacs.specs.Ahead.{words_at}
use Rattle.qv_qdimacs.proofs.clauses.read_clauses.Given as goal

abbrev pub invariant-clauses : goal.invariant-clauses
invariant-clauses l = record {
  within : l.end ≤ length l.text;
  none : l.lits.items ≡ [];
  says : clauses_from l.fn.file.prefix.items l.fn.file.clauses 0 [] (words_at l.text l.fn.at)
      ≡ clauses_from l.file.prefix.items l.file.clauses 0 [] (words_at l.text l.end);
}

abbrev pub decreases-clauses : goal.decreases-clauses
decreases-clauses l = length l.text - l.end
