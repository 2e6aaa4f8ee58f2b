-- what the terms so far are
use Rattle.std.proofs.Common.{◌≡◌, length}
use Rattle.qv_choose_clauses.specs.Clauses.{AreClauses}
use Rattle.qv_choose_clauses.proofs.clauses.clauses.Given as goal

abbrev pub invariant-terms : goal.invariant-terms
invariant-terms l = record { many : length l.clauses.items ≡ l.term-index; right : AreClauses l.sight.place l.store l.term-items l.clauses.items }
