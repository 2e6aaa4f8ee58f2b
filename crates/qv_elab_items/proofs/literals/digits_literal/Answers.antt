use Rattle.std.proofs.Common.{◌^◌, Some, None, cond, ap, ◌∙◌}
use Rattle.std.specs.Prelude.{nat_lt}
use Rattle.qv_elab_defs.specs.Tokens.{number_of}
use Rattle.qv_elab_items.proofs.Digits.{digits-large, shifted}
use Rattle.qv_elab_items.proofs.literals.digits_literal.Goals as goal

pub returns-in_default-number_below : goal.returns-in_default-number_below
returns-in_default-number_below c =
    digits-large c.args.place c.args.bits c.args.digits.now c.requires.sorted
    (c.in_default-number_below.ensures ∙ ap (λ base. cond (nat_lt (number_of base c.args.digits.now) (2 ^ 128)) (Some (number_of base c.args.digits.now)) None) (shifted c.args.bits c.requires.few))
