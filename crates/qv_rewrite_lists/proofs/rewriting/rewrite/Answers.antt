use Rattle.qv_rewrite_lists.specs.declared.rewriting.Rewritten.{Rewritten}
use Rattle.qv_rewrite_lists.proofs.Further.{further-on, none-further}
use Rattle.qv_rewrite_lists.proofs.rewriting.rewrite.Goals as goal

pub returns-clause-list : goal.returns-clause-list
returns-clause-list c =
    let first : Rewritten = record { passes = c.new.result; list = c.args.list } in
    let both = further-on c.args.store.now c.take_rules.new.store c.try_each.new.store first c.take_rules.new.made c.try_each.new.made c.in_ok-take_rules.ensures.further c.in_ok-try_each.ensures.further in
    (none-further c.args.store.now c.try_each.new.store first c.try_each.new.made c.new.ensures.items both).0

pub returns-clause-changes : goal.returns-clause-changes
returns-clause-changes c =
    let first : Rewritten = record { passes = c.new.result; list = c.args.list } in
    let both = further-on c.args.store.now c.take_rules.new.store c.try_each.new.store first c.take_rules.new.made c.try_each.new.made c.in_ok-take_rules.ensures.further c.in_ok-try_each.ensures.further in
    (none-further c.args.store.now c.try_each.new.store first c.try_each.new.made c.new.ensures.items both).1
