use Rattle.std.proofs.Common.{◌∷◌, [], add-one, refl}
use Rattle.std.proofs.lemmas.List.{map-append}
use Rattle.qv_circuits.specs.Adding.{lit_of}
use Rattle.qv_circuits.proofs.Added.{more-variables, no-variables}
use Rattle.qv_blast.proofs.building.variables.Goals as goal

pub variables-init : goal.variables-init
variables-init c = rw (c.in_ok-bits.ensures.items, no-variables c.args.first) refl

pub variables-preserved : goal.variables-preserved
variables-preserved c =
    let bits = c.variables.bits.items in
    let lit = c.variable.result in
    rw (c.in_ok-push.ensures.items, map-append lit_of bits (lit ∷ []), c.variables.invariant, c.variable.ensures, add-one) (more-variables c.args.first c.variables.i)
