use Rattle.std.proofs.Common.{◌≡◌, ◌+◌, List, drop}
use Rattle.qv_cnf.specs.Literal.{Literal}
use Rattle.qv_cnf.specs.Rat.{judged_along}
use Rattle.qv_rup.proofs.hints.judge_first.Given as goal

-- the hints that are left give what all hints give
abbrev pub invariant-going : goal.invariant-going
invariant-going l =
    (lits : List Literal) → judged_along l.clauses.live lits (drop l.place l.hints) (l.place + 1) l.marks ≡ judged_along l.clauses.live lits l.hints 1 l.initial.marks
