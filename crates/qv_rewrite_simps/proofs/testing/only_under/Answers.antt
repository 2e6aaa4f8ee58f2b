use Rattle.qv_rewrite_simps.proofs.Fitting.{under-none}
use Rattle.qv_rewrite_simps.proofs.testing.only_under.Goals as goal

pub returns-then-kids-ne1-clause-tree : goal.returns-then-kids-ne1-clause-tree
returns-then-kids-ne1-clause-tree c = under-none c.args.store.now c.args.op c.args.inner c.args.kids.now c.if-kids-ne1.true
