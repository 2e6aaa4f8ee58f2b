-- all places so far have the quantifier
use Rattle.std.proofs.Common.{◌≡◌, ◌≤◌, length, map, drop, ◌+◌}
use Rattle.qv_store.specs.Problems.{place_of, quantifier_of}
use Rattle.qv_skolem.specs.Blocks.{run_length}
use Rattle.qv_skolem.proofs.blocks.run_length.Given as goal

abbrev pub invariant-places : goal.invariant-places
invariant-places l = record {
  same : run_length (quantifier_of l.quant) (map place_of l.places) ≡ l.number + run_length (quantifier_of l.quant) (drop l.number (map place_of l.places));
  within : l.number ≤ length l.places;
}
