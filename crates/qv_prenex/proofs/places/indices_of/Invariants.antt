use Rattle.std.proofs.Common.{◌≡◌, map, take}
use Rattle.qv_prenex.proofs.places.indices_of.Given as goal

abbrev pub invariant-each : goal.invariant-each
invariant-each l = l.indices.items ≡ map (λ c. c.index) (take l.constant-index l.constants)
