use Rattle.std.proofs.Common.{subst}
use Rattle.qv_rewrite.proofs.Stepping.{rebuildable}
use Rattle.qv_store.specs.Stores.{StandsAt}
use Rattle.qv_rewrite.proofs.rebuilding.step.Goals as goal

pub rebuilt-requires-clause-args : goal.rebuilt-requires-clause-args
rebuilt-requires-clause-args c =
    (rebuildable c.args.rewriting c.args.store.now c.args.made.now c.args.id c.in-Ready.op c.in-Ready.args c.requires.made c.in-Ready.ensures.shared c.requires.id c.requires.free c.in-Ready.ensures.found).below

pub rebuilt-requires-clause-sorted : goal.rebuilt-requires-clause-sorted
rebuilt-requires-clause-sorted c =
    (rebuildable c.args.rewriting c.args.store.now c.args.made.now c.args.id c.in-Ready.op c.in-Ready.args c.requires.made c.in-Ready.ensures.shared c.requires.id c.requires.free c.in-Ready.ensures.found).sorted

pub returns-in_ok-rebuilt-in-Ready-clause-step : goal.returns-in_ok-rebuilt-in-Ready-clause-step
returns-in_ok-rebuilt-in-Ready-clause-step c =
    subst (StandsAt c.rebuilt.new.store c.in_ok-rebuilt-in-Ready.field-0)
    (rebuildable c.args.rewriting c.args.store.now c.args.made.now c.args.id c.in-Ready.op c.in-Ready.args c.requires.made c.in-Ready.ensures.shared c.requires.id c.requires.free c.in-Ready.ensures.found).whole
    c.in_ok-rebuilt-in-Ready.ensures.id
