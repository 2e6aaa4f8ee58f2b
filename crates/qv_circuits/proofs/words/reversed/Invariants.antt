use Rattle.std.proofs.Common.{◌≡◌, ◌-◌, length, drop}
use Rattle.std.specs.Prelude.{reverse}
use Rattle.qv_circuits.proofs.words.reversed.Given as goal

abbrev pub invariant-literals : goal.invariant-literals
invariant-literals l = l.lits.items ≡ reverse (drop (length l.bits - l.i) l.bits)
