use Rattle.std.proofs.Common.{arith, refl}
use Rattle.qv_blast.proofs.Lookups.{found-turn}
use Rattle.qv_blast.proofs.blaster.bits_of_kids.Goals as goal

pub kids-preserved : goal.kids-preserved
kids-preserved c =
    rw c.in_ok-push.ensures.items (found-turn (λ v. v.now) c.args.terms.now c.args.bits.now c.args.kids.now c.kids.kid-index c.kid-item.result c.kids.args.items c.found.result c.found.result.now (omega arith) c.kid-item.is c.kids.invariant c.found.ensures refl)
