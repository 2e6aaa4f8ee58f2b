use Rattle.std.proofs.Common.{length, ap, arith}
use Rattle.std.proofs.lemmas.List.{length-map}
use Rattle.qv_circuits.specs.Adding.{lit_of}
use Rattle.qv_store.specs.Nodes.{tree_at}
use Rattle.qv_game_lanes.proofs.Placing.{found-few, lawful-at}
use Rattle.qv_game_lanes.proofs.lane.Lane.bits.Goals as goal

pub returns-clause-few : goal.returns-clause-few
returns-clause-few c =
    let trees = c.args.store.now in
    let s = c.sort-sort.result in
    let lane = c.requires.lane.1 in
    let found = found-few trees c.args.self.now.blaster (tree_at trees c.args.id) s lane.blaster.blaster c.sort-sort.ensures.sort in
    let same = ap length c.bits_of.ensures.bits in
    let count = length-map c.bits_of.result.now lit_of in
    let wide = (lawful-at trees c.args.id s c.sort-sort.ensures.shared c.requires.id c.sort-sort.ensures.sort).1 in
    omega (arith, found, same, count, wide)
