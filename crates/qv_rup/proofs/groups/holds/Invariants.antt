use Rattle.std.proofs.Common.{◌≡◌, drop}
use Rattle.qv_cnf.specs.Refutation.{among}
use Rattle.qv_rup.proofs.groups.holds.Given as goal

-- what is left holds it where the whole does
abbrev pub invariant-looking : goal.invariant-looking
invariant-looking l = among (drop l.lit-index l.lits) l.wanted ≡ among l.lits l.wanted
