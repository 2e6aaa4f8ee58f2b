use Rattle.qv_store.specs.Nodes.{tree_at}
use Rattle.qv_rewrite_simps.proofs.Found.{stands-found}
use Rattle.qv_rewrite_simps.proofs.simping.found.Goals as goal

pub returns : goal.returns
returns c = stands-found c.args.store.now (tree_at c.args.store.now) c.args.walk.now c.args.made.now c.args.id c.result_of.result.now c.requires.made c.result_of.ensures
