use Rattle.std.proofs.Common.{◌≤◌, length, ap, arith}
use Rattle.std.proofs.lemmas.List.{length-map}
use Rattle.qv_words.specs.Sort.{width_of}
use Rattle.qv_words.proofs.Powers.{pow_le}
use Rattle.qv_circuits.specs.Adding.{lit_of, lits_of}
use Rattle.qv_circuits_laws.proofs.Adding.{number-below}
use Rattle.qv_store.specs.Nodes.{tree_at}
use Rattle.qv_sat.specs.Answering.{assignment}
use Rattle.qv_game_lanes.proofs.Placing.{found-few, lawful-at}
use Rattle.qv_game_lanes.proofs.places.value_at.Goals as goal
use Rattle.qv_game_lanes.proofs.places.value_at.Goals.{After-bits_of}

few : (c : After-bits_of) → length (lits_of c.bits_of.result.now) ≤ width_of c.sort-sort.result
few c =
    let found = found-few c.args.store.now c.args.blaster.now (tree_at c.args.store.now c.args.id) c.sort-sort.result c.requires.blaster c.sort-sort.ensures.sort in
    let same = ap length c.bits_of.ensures.bits in
    omega (arith, found, same)

pub number_in-requires : goal.number_in-requires
number_in-requires c =
    let low = few c in
    let count = length-map c.bits_of.result.now lit_of in
    let lawful = lawful-at c.args.store.now c.args.id c.sort-sort.result c.sort-sort.ensures.shared c.requires.id c.sort-sort.ensures.sort in
    let wide = lawful.1 in
    omega (arith, low, count, wide)

pub word_of-requires-clause-lawful : goal.word_of-requires-clause-lawful
word_of-requires-clause-lawful c =
    lawful-at c.args.store.now c.args.id c.sort-sort.result c.sort-sort.ensures.shared c.requires.id c.sort-sort.ensures.sort

pub word_of-requires-clause-value : goal.word_of-requires-clause-value
word_of-requires-clause-value c =
    let found = found-few c.args.store.now c.args.blaster.now (tree_at c.args.store.now c.args.id) c.sort-sort.result c.requires.blaster c.sort-sort.ensures.sort in
    let same = ap length c.bits_of.ensures.bits in
    let short : length (lits_of c.bits_of.result.now) ≤ width_of c.sort-sort.result = omega (arith, found, same) in
    let low = number-below (assignment c.args.model.now) (lits_of c.bits_of.result.now) in
    let wide = pow_le (length (lits_of c.bits_of.result.now)) (width_of c.sort-sort.result) short in
    let is = c.number_in.ensures in
    omega (arith, low, wide, is)
