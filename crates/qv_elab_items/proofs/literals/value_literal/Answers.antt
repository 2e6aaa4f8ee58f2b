use Rattle.std.proofs.Common.{refl}
use Rattle.qv_elab_items.proofs.Digits.{value-large}
use Rattle.qv_elab_items.proofs.literals.value_literal.Goals as goal

pub returns-in_default-small_number : goal.returns-in_default-small_number
returns-in_default-small_number c =
    let lawful = c.in-Some.ensures.lawful.0 refl in
    value-large c.args.place c.args.width c.args.digits.now lawful.0 lawful.1 c.in_default-small_number.ensures
