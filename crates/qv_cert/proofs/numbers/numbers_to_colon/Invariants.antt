use Rattle.std.proofs.Common.{◌≡◌, length}
use Rattle.qv_lrat_text.specs.Words.{words}
use Rattle.qv_cert.specs.Reading.{numbers_to_colon}
use Rattle.qv_cert.proofs.NumberLemmas.{with_indices}
use Rattle.qv_cert.proofs.numbers.numbers_to_colon.Given as goal

abbrev pub invariant-words : goal.invariant-words
invariant-words l = with_indices l.numbers.items (numbers_to_colon (words l.rest)) ≡ numbers_to_colon (words l.text)

abbrev pub decreases-words : goal.decreases-words
decreases-words l = length l.rest
