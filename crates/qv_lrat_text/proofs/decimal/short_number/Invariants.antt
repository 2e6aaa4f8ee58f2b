use Rattle.std.proofs.Common.{◌≡◌, ◌<◌, ◌^◌, drop}
use Rattle.qv_lrat_text.proofs.DecimalLemmas.{written_behind}
use Rattle.qv_lrat_text.proofs.decimal.short_number.Given as goal

abbrev pub invariant-loop-digit : goal.invariant-loop-digit
invariant-loop-digit l =
    (written_behind 0 l.word ≡ written_behind l.number (drop l.digit-index l.word)) × (l.number < 10 ^ l.digit-index)
