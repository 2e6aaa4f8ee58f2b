use Rattle.std.proofs.Common.{arith}
use Rattle.qv_circuits.proofs.MadeLists.{negs-turn}
use Rattle.qv_circuits.proofs.words.negated_each.Goals as goal

pub literals-preserved : goal.literals-preserved
literals-preserved c =
    rw (c.in_ok-push.ensures.items, c.negated.ensures) (negs-turn c.args.lits.now c.literals.negated.items c.literals.lit-index c.lit-item.result (omega arith) c.lit-item.is c.literals.invariant)
