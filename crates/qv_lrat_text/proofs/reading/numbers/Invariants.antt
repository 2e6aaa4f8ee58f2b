use Rattle.std.proofs.Common.{◌≡◌, length}
use Rattle.qv_lrat_text.specs.Words.{words}
use Rattle.qv_lrat_text.specs.Grammar.{numbers_to_zero}
use Rattle.qv_lrat_text.proofs.Numbers.{with_front}
use Rattle.qv_lrat_text.proofs.reading.numbers.Given as goal

abbrev pub invariant-loop-word : goal.invariant-loop-word
invariant-loop-word g l =
    with_front l.numbers.items (numbers_to_zero g.T.Number.meaning (words l.rest)) ≡ numbers_to_zero g.T.Number.meaning (words l.text)

abbrev pub decreases-loop-word : goal.decreases-loop-word
decreases-loop-word g l = length l.rest
