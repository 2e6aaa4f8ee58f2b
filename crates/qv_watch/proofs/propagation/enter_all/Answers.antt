use Rattle.qv_watch.specs.Attaching.{attached_in}
use Rattle.qv_watch.specs.Scanning.{Scans}
use Rattle.qv_watch.proofs.Keeping.{settled-on}
use Rattle.qv_watch.proofs.Walking.{Scans-twice}
use Rattle.qv_watch.proofs.propagation.enter_all.Goals as goal
use Rattle.qv_watch.proofs.propagation.enter_all.Goals.{After-enter}

both : (c : After-enter) → Scans c.args.clauses.now c.args.values.now c.enter.new.values
both c = Scans-twice c.args.clauses.now c.args.values.now c.loop-place.values c.enter.new.values c.loop-place.invariant.scans c.enter.ensures.scans

pub returns-in-Some-enter-clause-scans : goal.returns-in-Some-enter-clause-scans
returns-in-Some-enter-clause-scans c = both (goal.at.returns-in-Some-enter-clause-scans c).After-enter

pub loop-place-preserved : goal.loop-place-preserved
loop-place-preserved c = record {
  scans = both (goal.at.loop-place-preserved c).After-enter;
  settled = settled-on (attached_in c.args.clauses.now) c.loop-place.values.entries c.enter.new.values.entries c.enter.ensures.scans.goes_on c.loop-place.invariant.settled;
  watching = c.in_default-enter.ensures.watching;
}
