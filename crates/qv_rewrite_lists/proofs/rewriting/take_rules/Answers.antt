use Rattle.qv_rewrite_lists.proofs.Further.{further-here, further-on}
use Rattle.qv_rewrite_lists.proofs.rewriting.take_rules.Goals as goal

pub rules-init : goal.rules-init
rules-init c = further-here c.args.store.now c.args.made.now c.requires

pub rules-preserved : goal.rules-preserved
rules-preserved c = further-on c.args.store.now c.rules.store c.take_one.new.store c.args.made.now c.rules.made c.take_one.new.made c.rules.invariant c.in_ok-take_one.ensures.further
