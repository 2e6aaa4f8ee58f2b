use Rattle.std.proofs.Common.{◌≡◌, ◌≤◌, ◌^◌, true, false, arith}
use Rattle.qv_words.specs.Sort.{width_of}
use Rattle.qv_words.proofs.Powers.{pow_le}
use Rattle.qv_choose_candidates.proofs.targets.word_of.Goals as goal

pub unreachable-requires : goal.unreachable-requires
unreachable-requires c =
    let two : 2 ^ 1 ≤ 2 ^ width_of c.args.sort = pow_le 1 (width_of c.args.sort) c.requires.lawful.0 in
    let gone : false ≡ true = c.in-None.ensures.fits.1 (omega (arith, two, c.requires.small)) in
    absurd (cc)
