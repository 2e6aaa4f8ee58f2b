use Rattle.std.proofs.Common.{◌≡◌, ◌+◌, ◌≤◌, Ok, List, Some, min, length, refl, sym, ◌∙◌, ap, subst, arith}
use Rattle.qv_watch.specs.Entries.{Entry}
use Rattle.qv_watch.specs.TrailState.{TrailState}
use Rattle.qv_sat.specs.Counting.{unvalued}
use Rattle.qv_sat.specs.Deciding.{AreOpened}
use Rattle.qv_sat.proofs.Covering.{Covers-derived}
use Rattle.qv_sat.proofs.Decisions.{MayDecide-derived}
use Rattle.qv_sat.proofs.Fronts.{AreOpened-derived, AreOpened-start}
use Rattle.qv_sat.proofs.Unvalued.{unvalued-more}
use Rattle.qv_sat.proofs.deciding.descend.Goals as goal

pub decisions-init : goal.decisions-init
decisions-init c =
    let t = c.args.trail.now in
    let from : c.min-opened.result ≡ min (length c.args.assumptions.now) t.level = omega (arith, c.min-opened.ensures, c.level.ensures.level) in
    record {
      ready = c.requires.ready;
      opened = subst (AreOpened t c.args.assumptions.now) (sym from) (AreOpened-start c.args.assumptions.now t c.level.ensures.trail c.requires.ready.first);
      wide = c.requires.wide;
      covers = c.requires.covers;
      clauses = refl;
    }

pub returns-in-Conflict-clause-ready : goal.returns-in-Conflict-clause-ready
returns-in-Conflict-clause-ready c = MayDecide-derived c.decisions.trail c.propagate.new.self c.args.assumptions.now c.args.variables (Some c.propagate.result) c.decisions.invariant.ready c.propagate.ensures.same c.propagate.ensures.goes_on

pub true_front-opened-requires : goal.true_front-opened-requires
true_front-opened-requires c = AreOpened-derived c.args.assumptions.now c.decisions.trail c.propagate.new.self c.decisions.opened c.propagate.ensures.goes_on (ap (λ (t : TrailState). t.level) c.propagate.ensures.same) c.decisions.invariant.opened

pub decide-requires-clause-ready : goal.decide-requires-clause-ready
decide-requires-clause-ready c = MayDecide-derived c.decisions.trail c.propagate.new.self c.args.assumptions.now c.args.variables (Some c.propagate.result) c.decisions.invariant.ready c.propagate.ensures.same c.propagate.ensures.goes_on

pub decisions-smaller : goal.decisions-smaller
decisions-smaller c =
    let less = c.decide.ensures.less (c.in_ok-outcome.was ∙ ap Ok c.in_default-2.is) in
    let more : unvalued c.args.variables c.propagate.new.self.entries ≤ unvalued c.args.variables c.decisions.trail.entries =
    subst (λ (es : List Entry). unvalued c.args.variables es ≤ unvalued c.args.variables c.decisions.trail.entries) (sym c.propagate.ensures.goes_on.behind) (unvalued-more c.args.variables c.decisions.trail.entries c.propagate.ensures.goes_on.more) in
    omega arith

pub decisions-preserved : goal.decisions-preserved
decisions-preserved c =
    let least : min (c.true_front-opened.result + 1) (length c.args.assumptions.now) ≡ c.min-opened-in-decisions.result = omega (arith, c.min-opened-in-decisions.ensures) in
    record {
      ready = c.decide.ensures.ready;
      opened = subst (AreOpened c.decide.new.trail c.args.assumptions.now) least (c.decide.ensures.opened (c.in_ok-outcome.was ∙ ap Ok c.in_default-2.is));
      wide = c.decide.ensures.wide;
      covers = c.decide.ensures.covers;
      clauses = c.decide.ensures.clauses ∙ ap (λ (t : TrailState). t.clauses) c.propagate.ensures.same ∙ c.decisions.invariant.clauses;
    }

pub decide-requires-clause-covers : goal.decide-requires-clause-covers
decide-requires-clause-covers c =
    let inv = c.decisions.invariant in
    let room : c.propagate.new.self.room ≤ length c.decisions.chooser.order.held = omega (arith, ap (λ (t : TrailState). t.room) c.propagate.ensures.same, inv.ready.room, inv.wide) in
    Covers-derived c.decisions.chooser.order.held c.decisions.trail c.propagate.new.self c.propagate.ensures.trail room c.propagate.ensures.goes_on inv.covers

pub returns-in-Conflict-clause-covers : goal.returns-in-Conflict-clause-covers
returns-in-Conflict-clause-covers c =
    let inv = c.decisions.invariant in
    let room : c.propagate.new.self.room ≤ length c.decisions.chooser.order.held = omega (arith, ap (λ (t : TrailState). t.room) c.propagate.ensures.same, inv.ready.room, inv.wide) in
    Covers-derived c.decisions.chooser.order.held c.decisions.trail c.propagate.new.self c.propagate.ensures.trail room c.propagate.ensures.goes_on inv.covers
