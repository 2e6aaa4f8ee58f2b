use Rattle.qv_store.proofs.Replacement.{grows-more}
use Rattle.std.proofs.Common.{sym, subst, ◌∙◌}
use Rattle.qv_words.specs.Sorted.{IsSorted}
use Rattle.qv_store.specs.Stores.{StandsAt}
use Rattle.qv_store.proofs.Replacement.{none-there}
use Rattle.qv_prenex_splits.specs.Rebuilding.{top_in, IsFoundAt}
use Rattle.qv_prenex_splits.proofs.Changing.{right-application, needed-kid, next-put}
use Rattle.qv_prenex_splits.proofs.Staying.{change-stays}
use Rattle.qv_prenex_splits.proofs.rebuilding.make_next.Goals as goal

pub returns-then-stays-clause-step : goal.returns-then-stays-clause-step
returns-then-stays-clause-step c =
    record { below = c.requires.id; tree = sym (change-stays c.args.store.now c.args.change.now c.args.names.now c.args.id c.requires.shared c.requires.change c.requires.id (sym c.stays.ensures ∙ c.if-stays.true)) }

pub returns-in-Some-clause-step : goal.returns-in-Some-clause-step
returns-in-Some-clause-step c =
    next-put (top_in c.args.store.now c.args.change.now c.args.names.now) c.args.store.now c.top.new.store c.args.id c.in-Some.put c.in_ok-put.field-0 c.in_ok-put.ensures.put c.in-Some.is

pub put-requires-clause-children : goal.put-requires-clause-children
put-requires-clause-children c =
    let top = top_in c.args.store.now c.args.change.now c.args.names.now in
    let f = subst (IsFoundAt c.top.new.store c.args.made.now c.args.id) c.in-Ready.is c.in_ok-find.ensures.found in
    (right-application top c.args.store.now c.top.new.store c.args.made.now c.args.id c.in_ok-put.field-0 c.top.ensures.grows c.requires.id c.requires.made c.in_ok-put.ensures.put
    (none-there c.in_ok-put.field-0 c.in_default.not-Some) f.op f.kids f.tree c.in-Ready.op c.in-Ready.kids.items f.over).children

pub put-requires-clause-sorted : goal.put-requires-clause-sorted
put-requires-clause-sorted c =
    let top = top_in c.args.store.now c.args.change.now c.args.names.now in
    let f = subst (IsFoundAt c.top.new.store c.args.made.now c.args.id) c.in-Ready.is c.in_ok-find.ensures.found in
    subst IsSorted (sym (right-application top c.args.store.now c.top.new.store c.args.made.now c.args.id c.in_ok-put.field-0 c.top.ensures.grows c.requires.id c.requires.made c.in_ok-put.ensures.put
    (none-there c.in_ok-put.field-0 c.in_default.not-Some) f.op f.kids f.tree c.in-Ready.op c.in-Ready.kids.items f.over).tree) c.requires.sorted

pub returns-in-Missing-clause-step : goal.returns-in-Missing-clause-step
returns-in-Missing-clause-step c =
    let top = top_in c.args.store.now c.args.change.now c.args.names.now in
    let f = subst (IsFoundAt c.top.new.store c.args.made.now c.args.id) c.in-Missing.is c.in_ok-find.ensures.found in
    needed-kid top c.args.store.now c.top.new.store c.args.made.now c.args.id c.in_ok-put.field-0 c.top.ensures.grows c.requires.id c.requires.made c.in_ok-put.ensures.put
    (none-there c.in_ok-put.field-0 c.in_default.not-Some) f.op f.kids f.tree c.in-Missing.kid f.below c.requires.sorted f.over

pub returns-in_ok-put-in-Ready-clause-step : goal.returns-in_ok-put-in-Ready-clause-step
returns-in_ok-put-in-Ready-clause-step c =
    let top = top_in c.args.store.now c.args.change.now c.args.names.now in
    let f = subst (IsFoundAt c.top.new.store c.args.made.now c.args.id) c.in-Ready.is c.in_ok-find.ensures.found in
    subst (StandsAt c.put.new.self c.in_ok-put-in-Ready.field-0)
    (right-application top c.args.store.now c.top.new.store c.args.made.now c.args.id c.in_ok-put.field-0 c.top.ensures.grows c.requires.id c.requires.made c.in_ok-put.ensures.put
    (none-there c.in_ok-put.field-0 c.in_default.not-Some) f.op f.kids f.tree c.in-Ready.op c.in-Ready.kids.items f.over).tree
    c.in_ok-put-in-Ready.ensures.id

pub returns-in_err-put-in-Ready-clause-grows : goal.returns-in_err-put-in-Ready-clause-grows
returns-in_err-put-in-Ready-clause-grows c = grows-more c.args.store.now c.top.new.store c.put.new.self c.top.ensures.grows c.put.ensures.grows

pub returns-in_ok-put-in-Ready-clause-grows : goal.returns-in_ok-put-in-Ready-clause-grows
returns-in_ok-put-in-Ready-clause-grows c = grows-more c.args.store.now c.top.new.store c.put.new.self c.top.ensures.grows c.put.ensures.grows
