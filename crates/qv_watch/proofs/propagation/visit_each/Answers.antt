use Rattle.std.proofs.Common.{◌+◌, refl}
use Rattle.qv_watch.specs.Attaching.{attached_in}
use Rattle.qv_watch.specs.Scanning.{Scans}
use Rattle.qv_watch.specs.Watching.{lists_in as all_lists}
use Rattle.qv_watch.proofs.Keeping.{stepped_grown}
use Rattle.qv_watch.proofs.Walking.{Frames-twice, Scans-none, Scans-twice, visit_skipped}
use Rattle.qv_watch.proofs.propagation.visit_each.Goals as goal
use Rattle.qv_watch.proofs.propagation.visit_each.Goals.{After-visit}

both : (c : After-visit) → Scans c.args.clauses.now c.args.values.now c.visit.new.values
both c = Scans-twice c.args.clauses.now c.args.values.now c.loop-i.values c.visit.new.values c.loop-i.invariant.scans c.visit.ensures.scans

-- what is skipped at the start stays
pub loop-i-init : goal.loop-i-init
loop-i-init c =
    let cs = c.args.clauses.now in
    let values = c.args.values.now in
    let w = c.args.watches.now in
    record {
      scans = Scans-none cs values c.requires.may.grown;
      frames = record { places = refl; queue = refl; head = refl; lost = refl };
      visiting = visit_skipped cs values.entries w.queue.items w.head w.pairs.items (all_lists w.lists.items) c.args.list.now.items 0 c.skip-i.result c.args.lit (stepped_grown values.room (attached_in cs) values.entries c.requires.may.grown) (rw c.deref.ensures.value at c.skip-i.ensures.skipped) c.requires.visiting;
      within = rw c.deref.ensures.value at c.skip-i.ensures.within;
    }

pub loop-i-preserved-in-Kept : goal.loop-i-preserved-in-Kept
loop-i-preserved-in-Kept c =
    let scans = both (goal.at.loop-i-preserved-in-Kept c).After-visit in
    let cs = c.args.clauses.now in
    let values = c.visit.new.values in
    let w = c.visit.new.watches in
    record {
      scans = scans;
      frames = Frames-twice c.args.watches.now c.loop-i.watches w c.loop-i.invariant.frames c.visit.ensures.frames;
      visiting = visit_skipped cs values.entries w.queue.items w.head w.pairs.items (all_lists w.lists.items) c.visit.new.list.items (c.loop-i.i + 1) c.skip-i-in-Kept.result c.args.lit (stepped_grown values.room (attached_in cs) values.entries scans.grown) (rw c.deref-in-Kept.ensures.value at c.skip-i-in-Kept.ensures.skipped) c.in-Kept.ensures.visited.0;
      within = rw c.deref-in-Kept.ensures.value at c.skip-i-in-Kept.ensures.within;
    }

pub loop-i-preserved : goal.loop-i-preserved
loop-i-preserved c =
    let scans = both (goal.at.loop-i-preserved c).After-visit in
    let cs = c.args.clauses.now in
    let values = c.visit.new.values in
    let w = c.visit.new.watches in
    record {
      scans = scans;
      frames = Frames-twice c.args.watches.now c.loop-i.watches w c.loop-i.invariant.frames c.visit.ensures.frames;
      visiting = visit_skipped cs values.entries w.queue.items w.head w.pairs.items (all_lists w.lists.items) c.visit.new.list.items c.loop-i.i c.skip-i-in-Gone.result c.args.lit (stepped_grown values.room (attached_in cs) values.entries scans.grown) (rw c.deref-in-Gone.ensures.value at c.skip-i-in-Gone.ensures.skipped) c.in-Gone.ensures.visited.0;
      within = rw c.deref-in-Gone.ensures.value at c.skip-i-in-Gone.ensures.within;
    }

pub returns-in-Stopped-clause-scans : goal.returns-in-Stopped-clause-scans
returns-in-Stopped-clause-scans c = both (goal.at.returns-in-Stopped-clause-scans c).After-visit
