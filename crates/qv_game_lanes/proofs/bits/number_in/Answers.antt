use Rattle.std.proofs.Common.{◌≡◌, ◌≤◌, ◌-◌, ◌∙◌, length, drop, arith}
use Rattle.std.proofs.lemmas.List.{length-drop, length-map}
use Rattle.qv_words.proofs.Powers.{pow_le}
use Rattle.qv_circuits_laws.proofs.Adding.{number-below}
use Rattle.qv_circuits.specs.Adding.{lit_of, lits_of}
use Rattle.qv_sat.specs.Answering.{assignment}
use Rattle.qv_game_lanes.proofs.bits.number_in.Goals as goal

pub doubled-number-requires : goal.doubled-number-requires
doubled-number-requires c =
    let rest = drop c.bits.left c.args.bits.now in
    let bits = lits_of rest in
    let count : length bits ≡ length c.args.bits.now - c.bits.left = length-map rest lit_of ∙ length-drop c.bits.left c.args.bits.now in
    let some = c.bits-test.true in
    let few = c.requires in
    let short : length bits ≤ 127 = omega (arith, count, some, few) in
    let low = number-below (assignment c.args.model.now) bits in
    let wide = pow_le (length bits) 127 short in
    let is = c.bits.invariant.number in
    omega (arith, low, wide, is)
