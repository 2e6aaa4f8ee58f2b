-- the blocks so far, and those that what is left begins
use Rattle.std.proofs.Common.{◌≡◌, ◌+◌, ◌≤◌, length, map, drop}
use Rattle.qv_words.specs.Linked.{blocks_of}
use Rattle.qv_store.specs.Problems.{place_of}
use Rattle.qv_store.proofs.Blocks.{begun}
use Rattle.qv_store.proofs.problem.count_blocks.Given as goal

abbrev pub invariant-places : goal.invariant-places
invariant-places l =
    record { counted : l.count + begun l.before (drop l.place-index l.prefix) ≡ length (blocks_of (map place_of l.prefix)); few : l.count ≤ l.place-index }
