use Rattle.std.proofs.Common.{◌≡◌, ◌-◌, ◌*◌, ◌/◌, ◌^◌, ◌++◌}
use Rattle.qv_script_values.specs.ValueText.{digits}
use Rattle.qv_script_values.specs.Kept.{Keeps}
use Rattle.qv_script_values.proofs.values.push_digits.Given as goal

abbrev pub invariant-digits : goal.invariant-digits
invariant-digits l = record {
  added : l.out.items ≡ l.fn.out.items ++ digits l.base l.i (l.value / 2 ^ (l.bits * (l.count - l.i)));
  kept : Keeps l.fn.out.items l.out.items;
}
