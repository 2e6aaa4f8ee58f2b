use Rattle.qv_store.specs.Nodes.{tree_at}
use Rattle.qv_rewrite_simps.proofs.Fitting.{complement-none}
use Rattle.qv_rewrite_simps.proofs.testing.is_complement_by.Goals as goal

pub returns-then-kids-ne1 : goal.returns-then-kids-ne1
returns-then-kids-ne1 c = complement-none c.args.store.now (tree_at c.args.store.now c.args.id) c.args.op c.args.kids.now c.if-kids-ne1.true
