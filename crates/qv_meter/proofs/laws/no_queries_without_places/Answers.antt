use Rattle.std.proofs.Common.{◌≡◌, length, ap, arith}
use Rattle.qv_words.specs.Linked.{blocks_of}
use Rattle.qv_meter.specs.Queries.{block_count}
use Rattle.qv_meter.proofs.laws.no_queries_without_places.Goals as goal

pub returns : goal.returns
returns _ p level none asked =
    let no_blocks : block_count p ≡ 0 = ap (λ places. length (blocks_of places)) none in
    omega (arith, no_blocks, asked.low, asked.high)
