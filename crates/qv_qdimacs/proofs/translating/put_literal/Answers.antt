use Rattle.qv_qdimacs.specs.Leaves.{leaf_in}
use Rattle.qv_qdimacs.proofs.Formed.{leaves-formula}
use Rattle.qv_qdimacs.proofs.Standing.{at-put}
use Rattle.qv_qdimacs.proofs.translating.put_literal.Goals as goal

pub put_negation-requires : goal.put_negation-requires
put_negation-requires c =
    let v = c.variable.result in
    at-put c.put.new.store c.in_ok-leaf.leaf (leaf_in c.args.places.now v) (leaves-formula c.args.places.now v) c.in_ok-leaf.ensures.id
