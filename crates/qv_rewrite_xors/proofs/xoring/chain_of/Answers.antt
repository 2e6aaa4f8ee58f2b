use Rattle.qv_store.specs.Nodes.{tree_at}
use Rattle.qv_rewrite_xors.proofs.Found.{chain-found}
use Rattle.qv_rewrite_xors.proofs.xoring.chain_of.Goals as goal

pub returns : goal.returns
returns c = chain-found c.args.store.now (tree_at c.args.store.now) c.args.walk.now c.args.found.now c.args.id c.result_of.result.now c.requires.found c.result_of.ensures
