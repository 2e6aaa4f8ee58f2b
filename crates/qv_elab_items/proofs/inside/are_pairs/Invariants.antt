use Rattle.std.proofs.Common.{◌-◌}
use Rattle.qv_elab_items.proofs.Pairing.{Left}
use Rattle.qv_elab_items.proofs.inside.are_pairs.Given as goal

-- pairs stand before here
abbrev pub invariant-pairs : goal.invariant-pairs
invariant-pairs l = record {
  left : Left l.items l.text l.from l.at l.to;
}

abbrev pub decreases-pairs : goal.decreases-pairs
decreases-pairs l = l.to - l.at
