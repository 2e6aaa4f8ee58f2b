use Rattle.qv_trim.proofs.Marked.{named-none, named-then}
use Rattle.qv_trim.proofs.marking.close.Goals as goal

pub passes-init : goal.passes-init
passes-init c = named-none c.args.text.now c.args.entries.now c.args.marks.now

pub passes-preserved : goal.passes-preserved
passes-preserved c = named-then c.args.text.now c.args.entries.now c.args.marks.now c.passes.marks c.pass.new.marks c.passes.invariant c.in_ok-pass.ensures.named

pub returns-then-not-branch-clause-named : goal.returns-then-not-branch-clause-named
returns-then-not-branch-clause-named c = named-then c.args.text.now c.args.entries.now c.args.marks.now c.passes.marks c.pass.new.marks c.passes.invariant c.in_ok-pass.ensures.named

pub returns-then-not-branch-clause-closed : goal.returns-then-not-branch-clause-closed
returns-then-not-branch-clause-closed c = c.in_ok-pass.ensures.closed c.if-not-branch.true
