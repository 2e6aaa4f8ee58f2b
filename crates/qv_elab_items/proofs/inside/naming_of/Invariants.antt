use Rattle.std.proofs.Common.{◌-◌}
use Rattle.qv_elab_items.proofs.Attributed.{NamingLeft}
use Rattle.qv_elab_items.proofs.inside.naming_of.Given as goal

-- what the attributes before here make of a name
abbrev pub invariant-attributes : goal.invariant-attributes
invariant-attributes l = record {
  left : NamingLeft l.items l.text l.from l.at l.to l.naming;
}

abbrev pub decreases-attributes : goal.decreases-attributes
decreases-attributes l = l.to - l.at
