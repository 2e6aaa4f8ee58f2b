use Rattle.std.proofs.Common.{◌-◌, ◌+◌}
use Rattle.qv_script_parts.proofs.Parting.{PartsLeft}
use Rattle.qv_script_parts.proofs.parts.parts_of.Given as goal

-- parts stand before here
abbrev pub invariant-parts : goal.invariant-parts
invariant-parts l = record {
  left : PartsLeft l.expr.items.items l.expr.text.items (l.fn.at + 1) l.next l.close l.parts.items;
}

abbrev pub decreases-parts : goal.decreases-parts
decreases-parts l = l.close - l.next
