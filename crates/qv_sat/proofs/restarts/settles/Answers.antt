use Rattle.std.proofs.Common.{◌≤◌, length, ap, arith}
use Rattle.qv_watch.specs.TrailState.{TrailState}
use Rattle.qv_sat.proofs.Covering.{Covers-derived}
use Rattle.qv_sat.proofs.Decisions.{AssumedFirst-derived}
use Rattle.qv_sat.proofs.restarts.settles.Goals as goal

pub returns-clause-covers : goal.returns-clause-covers
returns-clause-covers c =
    let held = c.args.chooser.now.order.held in
    let room : c.propagate.new.self.room ≤ length held = omega (arith, ap (λ (t : TrailState). t.room) c.propagate.ensures.same, c.requires.room) in
    Covers-derived held c.args.trail.now c.propagate.new.self c.propagate.ensures.trail room c.propagate.ensures.goes_on c.requires.covers

pub returns-clause-first : goal.returns-clause-first
returns-clause-first c assumptions first =
    let t = c.args.trail.now in
    AssumedFirst-derived t.level assumptions t.entries c.propagate.new.self.entries c.propagate.ensures.goes_on first
