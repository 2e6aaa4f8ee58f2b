use Rattle.qv_rewrite_lists.proofs.Further.{further-here}
use Rattle.qv_rewrite_lists.proofs.rewriting.try_one.Goals as goal

pub returns-else-suits-clause-further : goal.returns-else-suits-clause-further
returns-else-suits-clause-further c = further-here c.args.store.now c.args.made.now c.requires
