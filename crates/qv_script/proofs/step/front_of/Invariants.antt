use Rattle.std.proofs.Common.{◌≡◌, ◌≤◌, ◌-◌, length, take}
use Rattle.qv_script_parts.proofs.Parting.{PartsLeft}
use Rattle.qv_script.proofs.step.front_of.Given as goal

-- the first parts stand before here
abbrev pub invariant-front : goal.invariant-front
invariant-front l = record {
  few : l.count ≤ 6;
  room : length l.parts ≡ 6;
  left : PartsLeft l.expr.items.items l.expr.text.items 1 l.next l.close (take l.count l.parts);
}

abbrev pub decreases-front : goal.decreases-front
decreases-front l = l.close - l.next
