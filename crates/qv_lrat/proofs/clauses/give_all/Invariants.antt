use Rattle.std.proofs.Common.{◌≡◌, take}
use Rattle.qv_cnf.specs.Refutation.{standing_at}
use Rattle.qv_cert_formulas.specs.Numbers.{under_ids}
use Rattle.qv_lrat.proofs.clauses.give_all.Given as goal

-- the first clauses were given
abbrev pub invariant-clauses : goal.invariant-clauses
invariant-clauses l = l.checker ≡ standing_at (under_ids 1 (take l.at l.clauses))
