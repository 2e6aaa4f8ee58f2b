use Rattle.qv_rewrite_lists.proofs.Further.{further-from, further-still}
use Rattle.qv_rewrite_lists.proofs.rewriting.take_better.Goals as goal

pub returns-else-is_better-clause-further : goal.returns-else-is_better-clause-further
returns-else-is_better-clause-further c = further-still c.args.store.now c.take_rounds.new.store c.args.made.now c.requires c.take_rounds.ensures.grows

pub returns-then-is_better-clause-further : goal.returns-then-is_better-clause-further
returns-then-is_better-clause-further c =
    further-from c.args.store.now c.take_rounds.new.store c.args.made.now c.in_ok-tried.tried c.take_rounds.new.made c.in_ok-tried.ensures.passes c.in_ok-tried.ensures.list c.in_ok-take_rounds.ensures.further
