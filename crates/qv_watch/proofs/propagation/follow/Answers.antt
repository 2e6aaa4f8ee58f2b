use Rattle.std.proofs.Common.{◌<◌, ◌≤◌, length, sym, ◌∙◌, arith}
use Rattle.std.specs.List.{slice_get}
use Rattle.qv_watch.specs.Scanning.{Scans}
use Rattle.std.proofs.lemmas.Option.{slice_get_within}
use Rattle.qv_watch.proofs.Walking.{beyond, head_entry, Scans-twice}
use Rattle.qv_watch.proofs.propagation.follow.Goals as goal
use Rattle.qv_watch.proofs.propagation.follow.Goals.{After-visit_all}

both : (c : After-visit_all) → Scans c.args.clauses.now c.args.values.now c.visit_all.new.values
both c = Scans-twice c.args.clauses.now c.args.values.now c.loop-lit.values c.visit_all.new.values c.loop-lit.invariant.scans c.visit_all.ensures.scans

-- a literal that is followed stands in the order
low : (c : After-visit_all) → c.loop-lit.watches.head < length c.loop-lit.values.entries
low c =
    let e = head_entry (slice_get c.loop-lit.values.entries c.loop-lit.watches.head) c.in-Some-literal_at.lit (sym c.in-Some-literal_at.ensures.literal) in
    slice_get_within c.loop-lit.values.entries c.loop-lit.watches.head e.0 e.1

pub returns-in-Some-visit_all-clause-scans : goal.returns-in-Some-visit_all-clause-scans
returns-in-Some-visit_all-clause-scans c = both (goal.at.returns-in-Some-visit_all-clause-scans c).After-visit_all

pub overflow_add-watches : goal.overflow_add-watches
overflow_add-watches c =
    let h = low (goal.at.overflow_add-watches c).After-visit_all in
    omega (arith, c.visit_all.ensures.frames.head, c.in-Some-literal_at.ensures.within, c.in-Some-literal_at.ensures.few)

pub loop-lit-smaller : goal.loop-lit-smaller
loop-lit-smaller c =
    let h = low (goal.at.loop-lit-smaller c).After-visit_all in
    omega (arith, c.visit_all.ensures.frames.head, c.visit_all.ensures.scans.room, c.in-Some-literal_at.ensures.within)

pub loop-lit-preserved : goal.loop-lit-preserved
loop-lit-preserved c = record {
  scans = both (goal.at.loop-lit-preserved c).After-visit_all;
  watching = c.in_default-visit_all.ensures.stop;
  none = c.visit_all.ensures.frames.queue ∙ c.loop-lit.invariant.none;
}

pub returns-clause-stop : goal.returns-clause-stop
returns-clause-stop c =
    let w = c.loop-lit.invariant.watching in
    let past : length c.loop-lit.values.entries ≤ c.loop-lit.watches.head = beyond c.loop-lit.values.entries c.loop-lit.watches.head (sym c.in_default-literal_at.ensures.literal) in
    record {
      watching = w;
      none = c.loop-lit.invariant.none;
      all = omega (arith, w.within);
    }
