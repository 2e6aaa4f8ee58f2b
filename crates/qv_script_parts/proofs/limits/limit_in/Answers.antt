use Rattle.std.proofs.Common.{◌^◌, ℕ, List, ap, ◌∙◌, arith}
use Rattle.std.specs.Prelude.{min}
use Rattle.std.proofs.lemmas.List.{take_all}
use Rattle.qv_elab_defs.specs.Tokens.{number_of}
use Rattle.qv_script_parts.proofs.Capped.{limit-more}
use Rattle.qv_script_parts.proofs.limits.limit_in.Goals as goal

pub with_digit-number-requires : goal.with_digit-number-requires
with_digit-number-requires c = omega (arith, c.digits.invariant)

pub digits-preserved : goal.digits-preserved
digits-preserved c = limit-more c.args.digits.now c.digits.byte-index c.digits.number c.with_digit-number.result c.digits-test.true c.digits.invariant c.with_digit-number.ensures

pub returns : goal.returns
returns c =
    c.digits.invariant
    ∙ ap (λ (ds : List ℕ). min (number_of 10 ds) (2 ^ 60)) (take_all c.digits.byte-index c.args.digits.now (omega (arith, c.digits-test.false)))
