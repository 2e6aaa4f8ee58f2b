use Rattle.std.proofs.Common.{◌≡◌, [], length, drop, slice_get, arith}
use Rattle.qv_words.specs.Problem.{closed_from}
use Rattle.qv_words.proofs.Unique.{one_meaning}
use Rattle.qv_words.proofs.definition_laws.one_winner.Goals as goal

pub returns : goal.returns
returns _ p point wins loses =
    let both : 1 ≡ 0 = one_meaning (closed_from (length point) (drop (length point) p.prefix) p.matrix) [] (slice_get point) 1 0 wins loses in
    omega (arith, both)
