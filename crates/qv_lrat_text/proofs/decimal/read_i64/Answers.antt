use Rattle.std.proofs.Common.{◌≡◌, Some, true, false, eqb, get_or, sym, ◌∙◌, arith, rules, pos, neg_ℤ, to_z, of_z, w64, ◌-ℤ◌}
use Rattle.std.proofs.lemmas.Int.{to_z_pos}
use Rattle.qv_lrat_text.specs.Decimal.{signed_number}
use Rattle.qv_lrat_text.proofs.DecimalLemmas.{negated_cast, signed_number-negative, signed_number-positive}
use Rattle.qv_lrat_text.proofs.decimal.read_i64.Goals as goal

pub returns-in_err-number-clause-value : goal.returns-in_err-number-clause-value
returns-in_err-number-clause-value c =
    let plain : eqb (get_or c.args.word.now 0 0) 45 ≡ false = search rules in
    c.from_residual.ensures ∙ sym (signed_number-positive _ _ _ plain c.in_err-number.ensures.value)

pub returns-then-not-has_minus-clause-value : goal.returns-then-not-has_minus-clause-value
returns-then-not-has_minus-clause-value c =
    let plain : eqb (get_or c.args.word.now 0 0) 45 ≡ false = search rules in
    let cast : to_z w64 c.in_ok-number.number ≡ pos c.in_ok-number.number = to_z_pos w64 c.in_ok-number.number (omega (arith, c.in_ok-number.ensures.range)) in
    rw cast (sym (signed_number-positive _ _ _ plain c.in_ok-number.ensures.value))

pub returns-in_err-number-2-clause-value : goal.returns-in_err-number-2-clause-value
returns-in_err-number-2-clause-value c =
    let minus : eqb (get_or c.args.word.now 0 0) 45 ≡ true = search rules in
    c.from_residual-in_err-number-2.ensures ∙ sym (signed_number-negative _ _ _ _ minus c.split_at.ensures.back c.in_err-number-2.ensures.value)

pub returns-clause-value : goal.returns-clause-value
returns-clause-value c =
    let minus : eqb (get_or c.args.word.now 0 0) 45 ≡ true = search rules in
    let cast : to_z w64 (of_z w64 (pos 0 -ℤ to_z w64 c.in_ok-number-2.number)) ≡ neg_ℤ (pos c.in_ok-number-2.number) = negated_cast c.in_ok-number-2.number (omega (arith, c.in_ok-number-2.ensures.range)) in
    let value : signed_number c.args.most c.args.word.now ≡ Some (neg_ℤ (pos c.in_ok-number-2.number)) = signed_number-negative _ _ _ _ minus c.split_at.ensures.back c.in_ok-number-2.ensures.value in
    search (rules, cast, value)
