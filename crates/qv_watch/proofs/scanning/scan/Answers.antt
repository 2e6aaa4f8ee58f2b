use Rattle.std.proofs.Common.{◌∙◌, refl, sym}
use Rattle.qv_watch.specs.Entries.{last_level}
use Rattle.qv_watch.specs.Scanning.{Scans}
use Rattle.qv_watch.specs.TrailState.{Continues}
use Rattle.qv_watch.proofs.Growing.{Continues-level, Continues-nothing, Continues-twice}
use Rattle.qv_watch.proofs.scanning.scan.Goals as goal
use Rattle.qv_watch.proofs.scanning.scan.Goals.{After-look_at_all}

pub look_at_all-requires : goal.look_at_all-requires
look_at_all-requires c = record {
  has_room = rw (sym c.loop-answer.invariant.scans.room) at c.requires.has_room;
  grown = c.loop-answer.invariant.scans.grown;
}

-- the run so far, and this look
both : (c : After-look_at_all) → Scans c.args.clauses.now c.args.values.now c.look_at_all.new.values
both c =
    let old = c.args.values.now.entries in
    let mid = c.loop-answer.values.entries in
    let new = c.look_at_all.new.values.entries in
    let so_far = c.loop-answer.invariant.scans in
    let look = c.look_at_all.ensures.scans in
    let here : Continues (last_level old) mid new = rw c.loop-answer.invariant.level at look.goes_on in
    record {
      room = look.room ∙ so_far.room;
      grown = look.grown;
      goes_on = Continues-twice (last_level old) old mid new so_far.goes_on here;
    }

pub returns-in-Some-clause-scans : goal.returns-in-Some-clause-scans
returns-in-Some-clause-scans c = both (goal.at.returns-in-Some-clause-scans c).After-look_at_all

pub loop-answer-init : goal.loop-answer-init
loop-answer-init c = record {
  scans = record {
    room = refl;
    grown = c.requires.grown;
    goes_on = Continues-nothing (last_level c.args.values.now.entries) c.args.values.now.entries;
  };
  level = refl;
}

pub loop-answer-preserved : goal.loop-answer-preserved
loop-answer-preserved c = record {
  scans = both (goal.at.loop-answer-preserved c).After-look_at_all;
  level = Continues-level c.loop-answer.values.entries c.look_at_all.new.values.entries c.look_at_all.ensures.scans.goes_on ∙ c.loop-answer.invariant.level;
}
