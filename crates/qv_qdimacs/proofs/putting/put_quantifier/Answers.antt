use Rattle.qv_store.specs.declared.problem.Quant.TheVariants as quant
use Rattle.qv_store.specs.Nodes.{tree_at}
use Rattle.qv_qdimacs.specs.Translation.{bound_by}
use Rattle.qv_qdimacs.proofs.Formed.{formula-sorted, bound-formula}
use Rattle.qv_qdimacs.proofs.putting.put_quantifier.Goals as goal

pub put-requires-clause-sorted : goal.put-requires-clause-sorted
put-requires-clause-sorted c =
    let t = tree_at c.args.store.now c.args.body in
    formula-sorted (bound_by quant.Exists c.args.level t) (bound-formula quant.Exists c.args.level t c.requires.formula)

pub put-requires-in-Forall-clause-sorted : goal.put-requires-in-Forall-clause-sorted
put-requires-in-Forall-clause-sorted c =
    let t = tree_at c.args.store.now c.args.body in
    formula-sorted (bound_by quant.Forall c.args.level t) (bound-formula quant.Forall c.args.level t c.requires.formula)
