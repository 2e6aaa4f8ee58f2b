use Rattle.std.proofs.Common.{add-one, refl}
use Rattle.std.proofs.lemmas.List.{map-append}
use Rattle.qv_circuits.specs.Adding.{lit_of, lits_of}
use Rattle.qv_circuits.proofs.KindLaws.{copies-more, copies-none}
use Rattle.qv_circuits.proofs.operators.copies.Goals as goal

pub copies-init : goal.copies-init
copies-init c = rw (c.in_ok-lits.ensures.items, copies-none (lits_of c.args.bits.now)) refl

pub copies-preserved : goal.copies-preserved
copies-preserved c =
    let bits = c.args.bits.now in
    rw (c.in_ok-extend_from_slice.ensures.items, map-append lit_of c.copies.lits.items bits, c.copies.invariant, add-one) (copies-more c.copies._i (lits_of bits))
