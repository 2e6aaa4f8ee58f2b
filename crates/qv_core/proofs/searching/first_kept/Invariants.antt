use Rattle.std.proofs.Common.{◌≡◌, ◌≤◌, ◌-◌, length, drop}
use Rattle.qv_core.specs.Searching.{first_from}
use Rattle.qv_core.proofs.searching.first_kept.Given as goal

-- none of the items that were passed is kept
abbrev pub invariant-items : goal.invariant-items
invariant-items l = record {
  rest : first_from l.from (drop l.from l.kept) ≡ first_from l.at (drop l.at l.kept);
  within : l.at ≤ length l.kept;
}

abbrev pub decreases-items : goal.decreases-items
decreases-items l = length l.kept - l.at
