use Rattle.std.proofs.Common.{Some, ◌∙◌, ap}
use Rattle.qv_watch.specs.Attaching.{attached_in}
use Rattle.qv_watch.specs.TrailState.{IsTrail}
use Rattle.qv_watch.specs.Viewed.{state_of}
use Rattle.qv_watch.proofs.Growing.{Continues-level}
use Rattle.qv_watch.proofs.Minding.{sound_quiet, sound_watching}
use Rattle.qv_watch.proofs.Keeping.{IsTrail-propagate, same_state}
use Rattle.qv_watch.proofs.trails.Trail.propagate.Goals as goal
use Rattle.qv_watch.proofs.trails.Trail.propagate.Goals.{After-self-1}

pub settle-answer-requires : goal.settle-answer-requires
settle-answer-requires c = record {
  may = record { has_room = c.self.invariant.trail.has_room; grown = c.self.invariant.trail.grown };
  settled = c.self.invariant.trail.settled;
  watching = c.self.invariant.watching;
}

after : (c : After-self-1) → IsTrail (state_of (attached_in c.self.inside.clauses) c.settle-answer.new.values (Some c.settle-answer.result))
after c =
    let a = c.self.inside in
    let new = c.settle-answer.new.values in
    IsTrail-propagate (attached_in a.clauses) a.values new a.answer c.settle-answer.result c.self.invariant.trail c.settle-answer.ensures.scans.room c.settle-answer.ensures.scans.grown c.settle-answer.ensures.scans.goes_on c.settle-answer.ensures.answer

pub invariant_of-self : goal.invariant_of-self
invariant_of-self c = record {
  trail = after c;
  watching = λ kept. sound_watching c.self.inside.clauses c.settle-answer.new.values.entries c.settle-answer.new.watches c.settle-answer.result (c.settle-answer.ensures.sound kept);
  quiet = λ is kept. sound_quiet c.self.inside.clauses c.settle-answer.new.values.entries c.settle-answer.new.watches c.settle-answer.result (c.settle-answer.ensures.sound kept) is;
}

pub returns-clause-trail : goal.returns-clause-trail
returns-clause-trail c = after c

pub returns-clause-same : goal.returns-clause-same
returns-clause-same c =
    let a = c.self.inside in
    let new = c.settle-answer.new.values in
    same_state new.entries (Some c.settle-answer.result)
    (c.settle-answer.ensures.scans.room ∙ ap (λ t. t.room) c.self.view_is)
    (ap (λ t. t.clauses) c.self.view_is)
    (Continues-level a.values.entries new.entries c.settle-answer.ensures.scans.goes_on ∙ ap (λ t. t.level) c.self.view_is)
