use Rattle.std.proofs.Common.{◌≡◌, ◌++◌, ◌∷◌, [], length, take}
use Rattle.qv_cnf.specs.Runs.{ids_of, IsNumbering}
use Rattle.qv_cnf.proofs.numbering.cut.Given as goal

-- the first n ids stay
abbrev pub invariant-runs : goal.invariant-runs
invariant-runs l = record {
  numbering : IsNumbering l.before.items l.last;
  front : take l.n (ids_of (l.before.items ++ l.last ∷ [])) ≡ take l.n (ids_of (l.initial.before.items ++ l.initial.last ∷ []));
}

abbrev pub decreases-runs : goal.decreases-runs
decreases-runs l = length l.before.items
