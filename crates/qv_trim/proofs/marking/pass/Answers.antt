use Rattle.std.proofs.Common.{◌≡◌, ℕ, ◌+◌, ◌-◌, subst, arith}
use Rattle.std.proofs.lemmas.Bool.{or_parts}
use Rattle.qv_trim.specs.Marking.{ClosedFrom}
use Rattle.qv_trim.proofs.Marked.{named-none, named-then, closed-none, closed-all}
use Rattle.qv_trim.proofs.marking.pass.Goals as goal

pub entries-init : goal.entries-init
entries-init c = record {
  within = omega arith;
  named = named-none c.args.text.now c.args.entries.now c.args.marks.now;
  closed = λ none. closed-none c.args.text.now c.args.entries.now c.args.marks.now c.requires;
}

pub entries-preserved : goal.entries-preserved
entries-preserved c = record {
  within = omega (arith, c.entries.invariant.within);
  named = named-then c.args.text.now c.args.entries.now c.args.marks.now c.entries.marks c.follow_marked.new.marks c.entries.invariant.named c.in_ok-again.ensures.named;
  closed = λ none.
      (let parts = or_parts c.entries.again c.in_ok-again.field-0 none in
      let here : c.entries.at ≡ (c.entries.at - 1) + 1 = omega (arith, c.entries-test.true) in
      c.in_ok-again.ensures.closed parts.1 (subst (λ (n : ℕ). ClosedFrom c.args.text.now c.args.entries.now n c.entries.marks) here (c.entries.invariant.closed parts.0)));
}

pub returns-clause-closed : goal.returns-clause-closed
returns-clause-closed c none = closed-all c.args.text.now c.args.entries.now c.entries.at c.entries.marks (omega arith) (c.entries.invariant.closed none)
