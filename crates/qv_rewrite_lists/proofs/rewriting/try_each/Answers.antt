use Rattle.qv_rewrite_lists.proofs.Further.{further-here, further-on}
use Rattle.qv_rewrite_lists.proofs.rewriting.try_each.Goals as goal

pub trials-init : goal.trials-init
trials-init c = further-here c.args.store.now c.args.made.now c.requires

pub trials-preserved : goal.trials-preserved
trials-preserved c = further-on c.args.store.now c.trials.store c.try_one.new.store c.args.made.now c.trials.made c.try_one.new.made c.trials.invariant c.in_ok-try_one.ensures.further
