use Rattle.std.proofs.Common.{[], refl, slice_get}
use Rattle.qv_words.specs.Sorted.{no_levels}
use Rattle.qv_words.specs.Problem.{closed_from}
use Rattle.qv_words.proofs.Winning.{under-same}
use Rattle.qv_words.proofs.definition_laws.winning_at_start.Goals as goal

pub returns : goal.returns
returns _ p =
    let closed = closed_from 0 p.prefix p.matrix in
    (under-same closed (slice_get []) no_levels 1 (λ l. refl), under-same closed no_levels (slice_get []) 1 (λ l. refl))
