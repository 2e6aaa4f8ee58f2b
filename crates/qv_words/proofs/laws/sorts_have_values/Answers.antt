use Rattle.std.proofs.Common.{◌≤◌, ◌^◌, arith}
use Rattle.std.proofs.lemmas.Nat.{pow_pos}
use Rattle.qv_words.specs.Sort.{width_of}
use Rattle.qv_words.proofs.Powers.{pow_le}
use Rattle.qv_words.proofs.laws.sorts_have_values.Goals as goal

pub returns : goal.returns
returns _ s lawful =
    let two : 2 ^ 1 ≤ 2 ^ width_of s = pow_le 1 (width_of s) lawful.0 in
    let most : 2 ^ width_of s ≤ 2 ^ 128 = pow_le (width_of s) 128 lawful.1 in
    (pow_pos (width_of s), omega (arith, two), λ v h. omega (arith, h, most))
