use Rattle.std.proofs.Common.{◌≡◌, ◌≤◌, drop}
use Rattle.qv_lrat_text.specs.Decimal.{number_from}
use Rattle.qv_lrat_text.proofs.DecimalLemmas.{number_behind}
use Rattle.qv_lrat_text.proofs.decimal.long_number.Given as goal

abbrev pub invariant-loop-digit : goal.invariant-loop-digit
invariant-loop-digit l =
    (number_from l.least l.most l.word ≡ number_behind l.least l.most l.number (drop l.digit-index l.word)) × (l.number ≤ l.most)
