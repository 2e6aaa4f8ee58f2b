use Rattle.qv_rewrite_lists.proofs.Further.{further-here, further-on}
use Rattle.qv_rewrite_lists.proofs.rewriting.take_rounds.Goals as goal

pub rounds-init : goal.rounds-init
rounds-init c = further-here c.args.store.now c.args.made.now c.requires

pub rounds-preserved : goal.rounds-preserved
rounds-preserved c = further-on c.args.store.now c.rounds.store c.take_round.new.store c.args.made.now c.rounds.made c.take_round.new.made c.rounds.invariant c.in_ok-take_round.ensures.further
