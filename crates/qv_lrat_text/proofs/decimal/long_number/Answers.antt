use Rattle.std.proofs.Common.{◌≡◌, true, get_or, arith, rules, sym, ◌∙◌}
use Rattle.std.specs.Char.{is_ascii_digit}
use Rattle.qv_lrat_text.proofs.DecimalLemmas.{number_from-start, number_behind-over}
use Rattle.qv_lrat_text.proofs.decimal.long_number.Goals as goal

pub loop-digit-init : goal.loop-digit-init
loop-digit-init c = (number_from-start _ _ _ (λ e. omega (arith, e, c.requires)), omega arith)

pub returns-in_err-checked_mul-clause-value : goal.returns-in_err-checked_mul-clause-value
returns-in_err-checked_mul-clause-value c =
    let l = c.loop-digit in
    let digit : is_ascii_digit (get_or c.args.word.now l.digit-index 0) ≡ true = search rules in
    c.from_residual.ensures
    ∙ sym (l.invariant.0 ∙ number_behind-over c.args.least c.args.most l.number c.args.word.now l.digit-index (omega arith) digit (omega (arith, c.in_err-checked_mul.ensures)))

pub returns-in_err-number-clause-value : goal.returns-in_err-number-clause-value
returns-in_err-number-clause-value c =
    let l = c.loop-digit in
    let digit : is_ascii_digit (get_or c.args.word.now l.digit-index 0) ≡ true = search rules in
    c.from_residual-in_err-number.ensures
    ∙ sym (l.invariant.0 ∙ number_behind-over c.args.least c.args.most l.number c.args.word.now l.digit-index (omega arith) digit (omega (arith, c.in_err-number.ensures)))

pub returns-then-number-most-clause-value : goal.returns-then-number-most-clause-value
returns-then-number-most-clause-value c =
    let l = c.loop-digit in
    let digit : is_ascii_digit (get_or c.args.word.now l.digit-index 0) ≡ true = search rules in
    sym (l.invariant.0 ∙ number_behind-over c.args.least c.args.most l.number c.args.word.now l.digit-index (omega arith) digit (omega arith))
