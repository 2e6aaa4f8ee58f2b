use Rattle.std.proofs.Common.{arith}
use Rattle.qv_watch.specs.Attaching.{attached_in}
use Rattle.qv_watch.specs.Scanning.{Scans}
use Rattle.qv_watch.specs.Watching.{lists_in as all_lists}
use Rattle.qv_watch.proofs.Covering.{watching_settled}
use Rattle.qv_watch.proofs.Growing.{once_grown}
use Rattle.qv_watch.proofs.Walking.{MayScan-on, Scans-twice}
use Rattle.qv_watch.proofs.propagation.settle.Goals as goal
use Rattle.qv_watch.proofs.propagation.settle.Goals.{then-not-watches+in-Some-Lost, else-not-watches}

pub returns-in-None-clause-answer : goal.returns-in-None-clause-answer
returns-in-None-clause-answer c =
    let done = c.in-None.ensures.stop in
    let w = c.follow.new.watches in
    let values = c.follow.new.values in
    watching_settled c.args.clauses.now values.entries w.queue.items w.head w.pairs.items (all_lists w.lists.items) (once_grown values.room (attached_in c.args.clauses.now) values.entries c.follow.ensures.scans.grown) done.none (omega (arith, done.all)) done.watching

pub scan-requires : goal.scan-requires
scan-requires c = elim c.if-not-watches.branch [
  | then-not-watches+in-Some-Lost w ↦ rw w.values-is (MayScan-on c.args.clauses.now c.args.values.now w.follow.new.values c.requires.may w.follow.ensures.scans)
  | else-not-watches w ↦ rw w.values-is c.requires.may
]

pub returns-clause-scans : goal.returns-clause-scans
returns-clause-scans c = elim c.if-not-watches.branch [
  | then-not-watches+in-Some-Lost w ↦
      let first : Scans c.args.clauses.now c.args.values.now c.if-not-watches.values = rw w.values-is w.follow.ensures.scans in
      Scans-twice c.args.clauses.now c.args.values.now c.if-not-watches.values c.scan.new.values first c.scan.ensures.scans
  | else-not-watches w ↦ rw w.values-is at c.scan.ensures.scans
]
