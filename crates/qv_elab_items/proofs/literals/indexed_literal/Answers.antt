use Rattle.std.proofs.Common.{◌≡◌, true, sym, ap, subst, ◌∙◌}
use Rattle.std.specs.Prelude.{Result}
use Rattle.qv_words.specs.Tree.{Tree}
use Rattle.qv_elab_defs.specs.Faults.{Fault}
use Rattle.qv_elab_defs.specs.Tokens.{number_of}
use Rattle.qv_elab_defs.specs.Leaves.{is_decimal, value_literal, indexed_literal}
use Rattle.qv_elab_defs.specs.Answers.{Writes}
use Rattle.qv_elab_items.proofs.Digits.{others-left, more-numerals, indexed-small}
use Rattle.qv_elab_items.proofs.literals.indexed_literal.Goals as goal

pub returns-in_default-numerals-2 : goal.returns-in_default-numerals-2
returns-in_default-numerals-2 c =
    let parts = c.in-Some.ensures in
    let two = c.in_default-numerals.len_at_least in
    let more = more-numerals c.args.text.now c.in-Some.name.numerals.now parts.0 parts.1 parts.3 two in
    ap (indexed_literal c.args.place) parts.2 ∙ others-left c.args.place (record { place = c.in-Some.name.place; name = c.in-Some.name.name.now; first = parts.0; others = parts.1 }) more

pub returns-in-Some-number_in : goal.returns-in-Some-number_in
returns-in-Some-number_in c =
    let parts = c.in-Some.ensures in
    let cases = c.in-Some-strip_prefix.ensures.cases in
    let decimal : is_decimal c.in-Some-strip_prefix.digits.now ≡ true = sym c.is_decimal.ensures ∙ c.if-not-is_decimal.false in
    let given = indexed-small c.args.place c.in-Some.name.place c.in-Some-number_in.width c.args.text.now c.in-Some.name.name.now c.args.items.now c.in-Some.name.numerals.now parts.0 parts.1 _ parts.2 parts.3 c.in-len1.len_at_least c.in-len1.len_below cases.0 (ap is_decimal (sym cases.1) ∙ decimal) c.in-Some-number_in.ensures in
    subst (λ (r : Result Tree Fault). Writes r c.value_literal.result) (ap (λ ds. value_literal c.args.place (number_of 10 ds) c.in-Some-number_in.width) cases.1 ∙ sym given) c.value_literal.ensures
