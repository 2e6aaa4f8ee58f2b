-- the literals so far
use Rattle.std.proofs.Common.{◌≡◌, ◌≤◌, ◌-◌, [], length}
use Rattle.qv_qdimacs.specs.Text.{clauses_from}
use Rattle.qv_qdimacs.specs.Ahead.{words_at}
use Rattle.qv_qdimacs.proofs.clauses.read_clause.Given as goal

abbrev pub invariant-words : goal.invariant-words
invariant-words l = record {
  within : l.end ≤ length l.text;
  further : l.fn.at ≤ l.end;
  says : clauses_from l.file.prefix.items l.file.clauses 0 [] (words_at l.text l.fn.at)
      ≡ clauses_from l.file.prefix.items l.file.clauses l.start l.lits.items (words_at l.text l.end);
}

abbrev pub decreases-words : goal.decreases-words
decreases-words l = length l.text - l.end
