use Rattle.std.proofs.Common.{◌-◌}
use Rattle.qv_elab_items.proofs.Attributed.{AttributesLeft}
use Rattle.qv_elab_items.proofs.inside.are_attributes.Given as goal

-- attributes stand before here
abbrev pub invariant-attributes : goal.invariant-attributes
invariant-attributes l = record {
  left : AttributesLeft l.items l.text l.from l.at l.to l.is_behind_key;
}

abbrev pub decreases-attributes : goal.decreases-attributes
decreases-attributes l = l.to - l.at
