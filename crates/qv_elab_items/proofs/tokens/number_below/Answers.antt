use Rattle.std.proofs.Common.{◌≤◌, ◌^◌, ◌*◌, ◌+◌, get_or, ◌∙◌, arith}
use Rattle.qv_elab_defs.specs.Tokens.{digit_value}
use Rattle.qv_elab_items.proofs.Numerals.{overflows, all-read}
use Rattle.qv_elab_items.proofs.tokens.number_below.Goals as goal

pub returns-in_err-checked_mul : goal.returns-in_err-checked_mul
returns-in_err-checked_mul c =
    let large : 2 ^ 128 ≤ c.digits.value * c.args.base + digit_value (get_or c.args.digits.now c.digits.b-index 0) = grind (arith, c.in_err-checked_mul.ensures) in
    c.from_residual.ensures ∙ overflows c.args.base c.requires c.args.digits.now c.digits.b-index c.digits.value c.digits-test.true large c.digits.invariant.rest

pub returns-in_err-value : goal.returns-in_err-value
returns-in_err-value c =
    let large : 2 ^ 128 ≤ c.digits.value * c.args.base + digit_value (get_or c.args.digits.now c.digits.b-index 0) = grind (arith, c.in_err-value.ensures) in
    c.from_residual-in_err-value.ensures ∙ overflows c.args.base c.requires c.args.digits.now c.digits.b-index c.digits.value c.digits-test.true large c.digits.invariant.rest

pub returns : goal.returns
returns c = all-read c.args.base c.args.digits.now c.digits.b-index c.digits.value c.digits-test.false c.digits.invariant.small c.digits.invariant.rest
