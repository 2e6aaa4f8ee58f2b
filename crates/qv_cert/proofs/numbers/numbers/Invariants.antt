use Rattle.std.proofs.Common.{◌≡◌, length}
use Rattle.qv_lrat_text.specs.Words.{words}
use Rattle.qv_cert.specs.Grammar.{number, numbers}
use Rattle.qv_cert.proofs.NumberLemmas.{with_front}
use Rattle.qv_cert.proofs.numbers.numbers.Given as goal

abbrev pub invariant-words : goal.invariant-words
invariant-words l = with_front l.numbers.items (numbers number (words l.rest)) ≡ numbers number (words l.text)

abbrev pub decreases-words : goal.decreases-words
decreases-words l = length l.rest
