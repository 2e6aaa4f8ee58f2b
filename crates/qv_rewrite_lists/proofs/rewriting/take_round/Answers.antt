use Rattle.qv_rewrite_lists.proofs.Further.{further-on, on-further}
use Rattle.qv_rewrite_lists.proofs.rewriting.take_round.Goals as goal

pub returns-clause-further : goal.returns-clause-further
returns-clause-further c =
    let front = further-on c.args.store.now c.take_where.new.store c.take_where-2.new.store c.args.made.now c.take_where.new.made c.take_where-2.new.made c.in_ok-take_where.ensures.further c.in_ok-take_where-2.ensures.further in
    let small = further-on c.args.store.now c.take_where-2.new.store c.take_one.new.store c.args.made.now c.take_where-2.new.made c.take_one.new.made front c.in_ok-take_one.ensures.further in
    on-further c.take_rules.result c.args.store.now c.take_one.new.store c.take_rules.new.store c.args.made.now c.take_one.new.made c.take_rules.new.made small c.take_rules.ensures.further
