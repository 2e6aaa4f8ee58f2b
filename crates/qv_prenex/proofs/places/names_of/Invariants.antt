-- the constants so far are named, in order
use Rattle.std.proofs.Common.{◌≡◌, ℕ, List, [], map, take}
use Rattle.qv_words.specs.declared.sort.Sort.{Sort}
use Rattle.qv_words.specs.Problem.{in_order}
use Rattle.qv_prenex.specs.Constants.{pair_of}
use Rattle.qv_prenex.proofs.places.names_of.Given as goal

abbrev pub invariant-each : goal.invariant-each
invariant-each l = record {
  constants : (cs : List (ℕ × Sort)) → map pair_of l.constants ≡ in_order cs → l.names.constants.keys ≡ map (λ c. c.index) (take l.constant-index l.constants);
  outer : l.names.outer.entries ≡ [];
}
