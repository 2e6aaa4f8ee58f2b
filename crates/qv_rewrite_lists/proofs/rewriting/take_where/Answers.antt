use Rattle.qv_rewrite_lists.proofs.Further.{further-here}
use Rattle.qv_rewrite_lists.proofs.rewriting.take_where.Goals as goal

pub returns-else-wanted-clause-further : goal.returns-else-wanted-clause-further
returns-else-wanted-clause-further c = further-here c.args.store.now c.args.made.now c.requires
