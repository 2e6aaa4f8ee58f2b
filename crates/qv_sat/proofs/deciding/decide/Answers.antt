use Rattle.std.proofs.Common.{rules, ◌≡◌, ◌≢◌, ◌<◌, ◌+◌, true, false, None, Some, sym, ap, subst, inr, arith, length}
use Rattle.std.proofs.lemmas.List.Elements.{recursion_from_All}
use Rattle.qv_watch.specs.Entries.{Entry, value_of, IsSettled}
use Rattle.qv_watch.specs.TrailState.{Holds, TrailState}
use Rattle.qv_watch.proofs.Entering.{entry_at-fresh}
use Rattle.qv_watch.proofs.Growing.{once_grown}
use Rattle.qv_sat.specs.Choosing.{Covers}
use Rattle.qv_sat.specs.Counting.{unvalued}
use Rattle.qv_sat.specs.Deciding.{IsWithin}
use Rattle.qv_sat.proofs.Covering.{within_long, Covers-push, CoversBut-all}
use Rattle.qv_sat.proofs.Decisions.{among_all, IsFailedOn-core, MayDecide-assume}
use Rattle.qv_sat.proofs.Fronts.{at_place, opened_all, value_none, AreOpened-free, AreOpened-own, IsDue-next}
use Rattle.qv_sat.proofs.Settling.{settled_without_conflict}
use Rattle.qv_sat.proofs.Unvalued.{unvalued-push}
use Rattle.qv_sat.proofs.Valuations.{IsFoundOn-values}
use Rattle.qv_sat.proofs.deciding.decide.Goals as goal
use Rattle.qv_watch.proofs.Picking.{among_read as there_among}

pub returns-then-eq-clause-answer : goal.returns-then-eq-clause-answer
returns-then-eq-clause-answer c =
    let es = c.args.trail.now.entries in
    let lit = c.index-assumptions-opened.result in
    let there = there_among c.args.assumptions.now c.args.opened lit c.if-opened-assumptions.true c.index-assumptions-opened.is in
    let false_one : value_of es lit ≡ Some false = search rules in
    IsFailedOn-core c.args.trail.now.clauses c.args.assumptions.now c.in_ok-core.core.items es lit c.requires.ready.first there false_one c.in_ok-core.ensures.no_model c.in_ok-core.ensures.decisions c.in_ok-core.ensures.some (settled_without_conflict c.args.trail.now.clauses es (subst (Holds c.args.trail.now.clauses es) c.requires.quiet c.requires.trail.answer))

pub assume-requires-clause-fresh : goal.assume-requires-clause-fresh
assume-requires-clause-fresh c =
    let es = c.args.trail.now.entries in
    let lit = c.index-assumptions-opened.result in
    let not_true : value_of es lit ≢ Some true = at_place (λ l. value_of es l ≢ Some true) c.args.assumptions.now c.args.opened lit c.if-opened-assumptions.true c.index-assumptions-opened.is (c.requires.open c.if-opened-assumptions.true) in
    let not_false : value_of es lit ≢ Some false = search rules in
    value_none es lit not_true not_false

pub returns-then-opened-assumptions-clause-ready : goal.returns-then-opened-assumptions-clause-ready
returns-then-opened-assumptions-clause-ready c =
    let lit = c.index-assumptions-opened.result in
    let there = there_among c.args.assumptions.now c.args.opened lit c.if-opened-assumptions.true c.index-assumptions-opened.is in
    MayDecide-assume c.args.trail.now c.assume.new.self c.args.assumptions.now c.args.variables record { lit = lit; level = c.args.trail.now.level + 1; reason = None } c.requires.ready c.assume.ensures (IsDue-next c.args.assumptions.now c.args.trail.now c.args.opened lit c.requires.opened c.if-opened-assumptions.true c.index-assumptions-opened.is there)

pub returns-then-opened-assumptions-clause-less : goal.returns-then-opened-assumptions-clause-less
returns-then-opened-assumptions-clause-less c _ =
    let t = c.args.trail.now in
    let lit = c.index-assumptions-opened.result in
    let e : Entry = record { lit = lit; level = t.level + 1; reason = None } in
    let there = there_among c.args.assumptions.now c.args.opened lit c.if-opened-assumptions.true c.index-assumptions-opened.is in
    let w : IsWithin c.args.variables lit = among_all (IsWithin c.args.variables) c.args.assumptions.now lit (recursion_from_All (IsWithin c.args.variables) c.args.assumptions.now c.requires.ready.within) there in
    let not_true : value_of t.entries lit ≢ Some true = at_place (λ l. value_of t.entries l ≢ Some true) c.args.assumptions.now c.args.opened lit c.if-opened-assumptions.true c.index-assumptions-opened.is (c.requires.open c.if-opened-assumptions.true) in
    let not_false : value_of t.entries lit ≢ Some false = search rules in
    subst (λ (s : TrailState). unvalued c.args.variables s.entries < unvalued c.args.variables t.entries) (sym c.assume.ensures) (unvalued-push c.args.variables t.entries e w.0 w.1 (entry_at-fresh t.entries lit (value_none t.entries lit not_true not_false)))

pub returns-then-opened-assumptions-clause-opened : goal.returns-then-opened-assumptions-clause-opened
returns-then-opened-assumptions-clause-opened c _ =
    AreOpened-own c.args.assumptions.now c.args.trail.now c.assume.new.self c.args.opened c.index-assumptions-opened.result c.requires.opened c.if-opened-assumptions.true c.index-assumptions-opened.is (ap (λ (t : TrailState). t.entries) c.assume.ensures) (ap (λ (t : TrailState). t.level) c.assume.ensures)

pub returns-in-Some-clause-ready : goal.returns-in-Some-clause-ready
returns-in-Some-clause-ready c = MayDecide-assume c.args.trail.now c.assume-in-Some.new.self c.args.assumptions.now c.args.variables record { lit = c.in-Some.lit; level = c.args.trail.now.level + 1; reason = None } c.requires.ready c.assume-in-Some.ensures (inr (opened_all c.args.assumptions.now c.args.trail.now c.args.opened c.requires.opened c.if-opened-assumptions.false))

pub returns-in-Some-clause-less : goal.returns-in-Some-clause-less
returns-in-Some-clause-less c _ =
    let t = c.args.trail.now in
    let e : Entry = record { lit = c.in-Some.lit; level = t.level + 1; reason = None } in
    let w = c.in-Some.ensures.within in
    subst (λ (s : TrailState). unvalued c.args.variables s.entries < unvalued c.args.variables t.entries) (sym c.assume-in-Some.ensures) (unvalued-push c.args.variables t.entries e w.0 (omega (arith, w.1, c.requires.wide)) (entry_at-fresh t.entries c.in-Some.lit c.in-Some.ensures.free))

pub returns-in-Some-clause-opened : goal.returns-in-Some-clause-opened
returns-in-Some-clause-opened c _ =
    AreOpened-free c.args.assumptions.now c.args.trail.now c.assume-in-Some.new.self c.args.opened record { lit = c.in-Some.lit; level = c.args.trail.now.level + 1; reason = None } c.requires.opened c.if-opened-assumptions.false (ap (λ (t : TrailState). t.entries) c.assume-in-Some.ensures)

pub returns-clause-answer : goal.returns-clause-answer
returns-clause-answer c =
    let t = c.args.trail.now in
    let settled : IsSettled t.clauses t.entries = subst (Holds t.clauses t.entries) c.requires.quiet c.requires.trail.answer in
    IsFoundOn-values t.clauses t.entries c.args.assumptions.now c.args.variables c.in_ok-values.values.items (once_grown t.room t.clauses t.entries c.requires.trail.grown) settled c.requires.ready.clauses (λ v from to none. c.in_default.ensures.none v from (omega (arith, c.next.ensures.long, c.requires.wide)) (entry_at-fresh t.entries record { variable = v; positive = false } none)) c.in_ok-values.ensures.values c.requires.ready.within (opened_all c.args.assumptions.now t c.args.opened c.requires.opened c.if-opened-assumptions.false) c.in_ok-values.ensures.long

pub returns-then-opened-assumptions-clause-covers : goal.returns-then-opened-assumptions-clause-covers
returns-then-opened-assumptions-clause-covers c =
    let t = c.args.trail.now in
    let held = c.args.chooser.now.order.held in
    let lit = c.index-assumptions-opened.result in
    let e : Entry = record { lit = lit; level = t.level + 1; reason = None } in
    let there = there_among c.args.assumptions.now c.args.opened lit c.if-opened-assumptions.true c.index-assumptions-opened.is in
    let w : IsWithin c.args.variables lit = among_all (IsWithin c.args.variables) c.args.assumptions.now lit (recursion_from_All (IsWithin c.args.variables) c.args.assumptions.now c.requires.ready.within) there in
    subst (λ (s : TrailState). Covers held s.entries) (sym c.assume.ensures) (Covers-push held t.entries e (omega (arith, w.1, c.requires.wide)) c.requires.covers.within (CoversBut-all held t.entries lit.variable c.requires.covers))

pub returns-in-Some-clause-covers : goal.returns-in-Some-clause-covers
returns-in-Some-clause-covers c =
    let t = c.args.trail.now in
    let held = c.next.new.self.order.held in
    let old = c.args.chooser.now.order.held in
    let e : Entry = record { lit = c.in-Some.lit; level = t.level + 1; reason = None } in
    let w = c.in-Some.ensures.within in
    subst (λ (s : TrailState). Covers held s.entries) (sym c.assume-in-Some.ensures) (Covers-push held t.entries e (omega (arith, w.1, c.next.ensures.long)) (within_long (length old) (length held) t.entries c.next.ensures.long c.requires.covers.within) c.in-Some.ensures.but)
