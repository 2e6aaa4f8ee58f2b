use Rattle.std.proofs.Common.{◌≡◌, Some, None, arith, sym, ◌∙◌}
use Rattle.std.proofs.lemmas.Bool.{eqb-true, eqb-false}
use Rattle.qv_lrat_text.proofs.DecimalLemmas.{number_from-nil, number_from-written, in_range-below, in_range-above, in_range-inside}
use Rattle.qv_lrat_text.specs.Decimal.{number_from, in_range}
use Rattle.qv_lrat_text.proofs.decimal.read_number.Goals as goal

pub returns-then-is_empty-clause-value : goal.returns-then-is_empty-clause-value
returns-then-is_empty-clause-value c = sym (number_from-nil _ _ _ (eqb-true _ _ (sym c.is_empty.ensures ∙ c.if-is_empty.true)))

pub returns-in_err-short_number-clause-value : goal.returns-in_err-short_number-clause-value
returns-in_err-short_number-clause-value c =
    c.from_residual.ensures
    ∙ sym (number_from-written _ _ _ None (eqb-false _ _ (sym c.is_empty.ensures ∙ c.if-is_empty.false)) c.in_err-short_number.ensures)

pub returns-then-number-least-clause-value : goal.returns-then-number-least-clause-value
returns-then-number-least-clause-value c =
    let read : number_from c.args.least c.args.most c.args.word.now ≡ in_range c.args.least c.args.most c.in_ok-short_number.field-0 =
    number_from-written _ _ _ (Some c.in_ok-short_number.field-0) (eqb-false _ _ (sym c.is_empty.ensures ∙ c.if-is_empty.false)) c.in_ok-short_number.ensures in
    sym (read ∙ in_range-below c.args.least c.args.most c.in_ok-short_number.field-0 (omega arith))

pub returns-then-number-most-clause-value : goal.returns-then-number-most-clause-value
returns-then-number-most-clause-value c =
    let read : number_from c.args.least c.args.most c.args.word.now ≡ in_range c.args.least c.args.most c.in_ok-short_number.field-0 =
    number_from-written _ _ _ (Some c.in_ok-short_number.field-0) (eqb-false _ _ (sym c.is_empty.ensures ∙ c.if-is_empty.false)) c.in_ok-short_number.ensures in
    sym (read ∙ in_range-above c.args.least c.args.most c.in_ok-short_number.field-0 (omega arith))

pub returns-clause-value : goal.returns-clause-value
returns-clause-value c =
    let read : number_from c.args.least c.args.most c.args.word.now ≡ in_range c.args.least c.args.most c.in_ok-short_number.field-0 =
    number_from-written _ _ _ (Some c.in_ok-short_number.field-0) (eqb-false _ _ (sym c.is_empty.ensures ∙ c.if-is_empty.false)) c.in_ok-short_number.ensures in
    rw c.from-number.ensures (sym (read ∙ in_range-inside c.args.least c.args.most c.in_ok-short_number.field-0 (omega arith) (omega arith)))
