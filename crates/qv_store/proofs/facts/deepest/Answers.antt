use Rattle.std.proofs.Common.{arith}
use Rattle.qv_store.proofs.Depths.{deepest-next}
use Rattle.qv_store.proofs.facts.deepest.Goals as goal
use Rattle.qv_store.proofs.facts.deepest.Goals.{then-depth-other, else-depth-other}

pub kids-preserved : goal.kids-preserved
kids-preserved c =
    let next = deepest-next c.args.before.now c.args.kids.now c.kids.kid-index c.kid-item.result c.place.result c.kids-test.true c.kid-item.is c.place.ensures in
    elim c.if-depth-other.branch [ then-depth-other w ↦ omega (arith, next, c.kids.invariant) | else-depth-other w ↦ omega (arith, next, c.kids.invariant) ]
