use Rattle.std.proofs.Common.{◌-◌}
use Rattle.std.specs.Prelude.{option_map}
use Rattle.qv_script_parts.proofs.Attributes.{NameLeft}
use Rattle.qv_script_parts.proofs.annotated.name_given.Given as goal

-- the name that the attributes before here give
abbrev pub invariant-attributes : goal.invariant-attributes
invariant-attributes l = record {
  left : NameLeft l.items l.text l.from l.at l.to (option_map (λ n. n.now) l.name);
}

abbrev pub decreases-attributes : goal.decreases-attributes
decreases-attributes l = l.to - l.at
