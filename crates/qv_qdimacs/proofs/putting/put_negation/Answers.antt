use Rattle.qv_words.specs.Prenex.{negation}
use Rattle.qv_store.specs.Nodes.{tree_at}
use Rattle.qv_qdimacs.proofs.Formed.{formula-sorted, negation-formula}
use Rattle.qv_qdimacs.proofs.putting.put_negation.Goals as goal

pub put_application-requires-clause-sorted : goal.put_application-requires-clause-sorted
put_application-requires-clause-sorted c =
    let a = tree_at c.args.store.now c.args.a in formula-sorted (negation a) (negation-formula a c.requires.formula)
