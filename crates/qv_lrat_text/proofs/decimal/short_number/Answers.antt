use Rattle.std.proofs.Common.{◌≡◌, ◌+◌, ◌-◌, true, get_or, arith, rules}
use Rattle.std.specs.Char.{is_ascii_digit}
use Rattle.qv_lrat_text.proofs.DecimalLemmas.{digit-lt, more_digits, few_digits}
use Rattle.qv_lrat_text.proofs.decimal.short_number.Goals as goal

pub overflow_mul-number : goal.overflow_mul-number
overflow_mul-number c =
    let l = c.loop-digit in
    omega (arith, c.requires, more_digits l.digit-index l.number 0 l.invariant.1 (omega arith), few_digits (l.digit-index + 1) (omega (arith, c.requires)))

pub overflow_add-number : goal.overflow_add-number
overflow_add-number c =
    let l = c.loop-digit in
    let digit : is_ascii_digit (get_or c.args.word.now l.digit-index 0) ≡ true = search rules in
    let more = more_digits l.digit-index l.number (get_or c.args.word.now l.digit-index 0 - 48) l.invariant.1 (digit-lt _ digit) in
    omega (arith, c.requires, c.from.ensures, more, few_digits (l.digit-index + 1) (omega (arith, c.requires)))
