use Rattle.std.proofs.Common.{◌≤◌, ◌^◌}
use Rattle.qv_solve_offer.proofs.base.feed.Given as goal

-- the greatest id so far
abbrev pub invariant-clauses : goal.invariant-clauses
invariant-clauses l = record {
  top : l.core.top ≤ l.last;
  few : l.last ≤ 2 ^ 61;
}
