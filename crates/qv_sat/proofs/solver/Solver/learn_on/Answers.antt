use Rattle.std.proofs.Common.{rules, ◌≡◌, ℕ, List, [], All, Option, sym, ◌∙◌, subst, arith}
use Rattle.std.specs.Prelude.{IfSome}
use Rattle.qv_cnf.specs.Listing.{Numbered}
use Rattle.qv_cnf.specs.Literal.{Literal}
use Rattle.qv_cnf.specs.LratLine.{lines_of}
use Rattle.qv_cnf.specs.Derivation.{additions}
use Rattle.qv_sat.specs.declared.outcomes.Outcome.{Outcome}
use Rattle.qv_sat.specs.Answering.{IsFailed, IsFound, OnFound, OnUnsat}
use Rattle.qv_sat.specs.CoreState.{Trims}
use Rattle.qv_sat.specs.Deciding.{AnswersOn, IsWithin}
use Rattle.qv_sat.specs.Holding.{core_of}
use Rattle.qv_sat.proofs.Concluding.{conflict_held, found_held, unsat_held, GoesOn-twice, IsFailed-refuted}
use Rattle.qv_sat.proofs.Holdings.{within_attached}
use Rattle.qv_sat.proofs.Trimming.{Trims-additions, Trims-goes_on, Trims-may, Trims-top}
use Rattle.qv_sat.proofs.solver.Solver.learn_on.Goals as goal

pub descend-requires-clause-ready : goal.descend-requires-clause-ready
descend-requires-clause-ready g c =
    let inv = c.loop-reached.invariant in
    record {
      room = inv.ready.held.room;
      most = inv.ready.held.most;
      clauses = let s = c.loop-reached.self in within_attached s.base (lines_of s.steps.items) s.trail s.top s.variables s.refuted s.aside inv.ready.held;
      within = inv.within;
      first = inv.first;
    }

pub returns-in-Some-clause-found : goal.returns-in-Some-clause-found
returns-in-Some-clause-found g c =
    let u = c.settle.new.self in
    let inv = c.loop-reached.invariant in
    let ensures = c.in_ok-outcome.ensures in
    let within = subst (λ (n : ℕ). All (IsWithin n) c.args.assumptions.now) (sym c.settle.ensures.variables) inv.within in
    let answers : AnswersOn u.trail.clauses c.args.assumptions.now u.variables c.in-Some.outcome = subst (λ (o : Option Outcome). IfSome o (AnswersOn u.trail.clauses c.args.assumptions.now u.variables)) c.in-Some.is ensures.answer in
    let none : u.aside.ids.items ≡ [] = subst (λ (o : Option Outcome). IfSome o (λ _. u.aside.ids.items ≡ [])) c.in-Some.is ensures.none in
    subst (λ (b : List Numbered). OnFound c.in-Some.outcome (IsFound b c.args.assumptions.now)) (c.settle.ensures.spends.goes_on.base ∙ inv.goes_on.base) (found_held u.base (lines_of u.steps.items) u.trail u.top u.variables u.refuted u.aside c.args.assumptions.now c.in-Some.outcome c.settle.ensures.spends.held none within answers)

pub returns-in-Some-clause-unsat : goal.returns-in-Some-clause-unsat
returns-in-Some-clause-unsat g c =
    let u = c.settle.new.self in
    let inv = c.loop-reached.invariant in
    let ensures = c.in_ok-outcome.ensures in
    let within = subst (λ (n : ℕ). All (IsWithin n) c.args.assumptions.now) (sym c.settle.ensures.variables) inv.within in
    let answers : AnswersOn u.trail.clauses c.args.assumptions.now u.variables c.in-Some.outcome = subst (λ (o : Option Outcome). IfSome o (AnswersOn u.trail.clauses c.args.assumptions.now u.variables)) c.in-Some.is ensures.answer in
    let none : u.aside.ids.items ≡ [] = subst (λ (o : Option Outcome). IfSome o (λ _. u.aside.ids.items ≡ [])) c.in-Some.is ensures.none in
    subst (λ (b : List Numbered). OnUnsat c.in-Some.outcome (IsFailed b c.args.assumptions.now)) (c.settle.ensures.spends.goes_on.base ∙ inv.goes_on.base) (unsat_held u.base (lines_of u.steps.items) u.trail u.top u.variables u.refuted u.aside c.args.assumptions.now c.in-Some.outcome c.settle.ensures.spends.held answers)

pub returns-in-Some-clause-no_conflict : goal.returns-in-Some-clause-no_conflict
returns-in-Some-clause-no_conflict g c =
    let u = c.settle.new.self in
    let inv = c.loop-reached.invariant in
    let ensures = c.in_ok-outcome.ensures in
    let within = subst (λ (n : ℕ). All (IsWithin n) c.args.assumptions.now) (sym c.settle.ensures.variables) inv.within in
    let answers : AnswersOn u.trail.clauses c.args.assumptions.now u.variables c.in-Some.outcome = subst (λ (o : Option Outcome). IfSome o (AnswersOn u.trail.clauses c.args.assumptions.now u.variables)) c.in-Some.is ensures.answer in
    let none : u.aside.ids.items ≡ [] = subst (λ (o : Option Outcome). IfSome o (λ _. u.aside.ids.items ≡ [])) c.in-Some.is ensures.none in
    conflict_held u.base (lines_of u.steps.items) u.trail u.top u.variables u.refuted u.aside c.args.assumptions.now c.in-Some.outcome c.settle.ensures.spends.held none answers

pub returns-then-self-clause-no_conflict : goal.returns-then-self-clause-no_conflict
returns-then-self-clause-no_conflict g c some = absurd (some c.new-core.ensures.items)

-- the run so far, and what was learnt
pub returns-in_err-outcome-clause-spends : goal.returns-in_err-outcome-clause-spends
returns-in_err-outcome-clause-spends g c =
    let inv = c.loop-reached.invariant in
    let learnt = c.settle.ensures.spends in
    record {
      held = learnt.held;
      goes_on = GoesOn-twice (core_of c.args.self.now) (core_of c.loop-reached.self) (core_of c.settle.new.self) inv.goes_on learnt.goes_on;
      count = omega arith;
      same = g.met.B.Budget.same_transitive c.args.budget.now c.loop-reached.budget c.settle.new.budget inv.same learnt.same;
      may = learnt.may;
      spent = search rules;
      offered = search rules;
    }

pub returns-in-Some-clause-spends : goal.returns-in-Some-clause-spends
returns-in-Some-clause-spends g c =
    let inv = c.loop-reached.invariant in
    let learnt = c.settle.ensures.spends in
    record {
      held = learnt.held;
      goes_on = GoesOn-twice (core_of c.args.self.now) (core_of c.loop-reached.self) (core_of c.settle.new.self) inv.goes_on learnt.goes_on;
      count = omega arith;
      same = g.met.B.Budget.same_transitive c.args.budget.now c.loop-reached.budget c.settle.new.budget inv.same learnt.same;
      may = learnt.may;
      spent = search rules;
      offered = search rules;
    }

pub returns-then-self-clause-spends : goal.returns-then-self-clause-spends
returns-then-self-clause-spends g c =
    let inv = c.loop-reached.invariant in
    let learnt = c.settle.ensures.spends in
    record {
      held = learnt.held;
      goes_on = GoesOn-twice (core_of c.args.self.now) (core_of c.loop-reached.self) (core_of c.settle.new.self) inv.goes_on learnt.goes_on;
      count = omega arith;
      same = g.met.B.Budget.same_transitive c.args.budget.now c.loop-reached.budget c.settle.new.budget inv.same learnt.same;
      may = learnt.may;
      spent = search rules;
      offered = search rules;
    }

pub returns-then-self-clause-unsat : goal.returns-then-self-clause-unsat
returns-then-self-clause-unsat g c =
    let u = c.settle.new.self in
    subst (λ (xs : List Literal). IsFailed c.args.self.now.base.live c.args.assumptions.now xs) (sym c.new-core.ensures.items)
    (subst (λ (b : List Numbered). IsFailed b c.args.assumptions.now []) (c.settle.ensures.spends.goes_on.base ∙ c.loop-reached.invariant.goes_on.base)
    (IsFailed-refuted u.base (lines_of u.steps.items) u.trail u.top u.variables u.refuted u.aside c.args.assumptions.now c.settle.ensures.spends.held c.if-self.true))

pub loop-reached-preserved : goal.loop-reached-preserved
loop-reached-preserved g c =
    let inv = c.loop-reached.invariant in
    let old = c.loop-reached.budget in
    let new = c.settle.new.budget in
    let settled = c.in_ok-outcome.ensures in
    let before = core_of c.settle.new.self in
    let after = core_of c.pause.new.self in
    let t : Trims before after = c.pause.ensures.trims in
    let top : c.pause.new.self.top ≡ c.settle.new.self.top = Trims-top before after t in
    let adds : additions (lines_of c.pause.new.self.steps.items) ≡ additions (lines_of c.settle.new.self.steps.items) = Trims-additions before after t in
    let run = GoesOn-twice (core_of c.args.self.now) (core_of c.loop-reached.self) before inv.goes_on c.settle.ensures.spends.goes_on in
    let ready = settled.ready c.if-self.false in
    record {
      ready = record {
        held = c.pause.ensures.held;
        going = c.pause.ensures.refuted ∙ c.if-self.false;
        may = Trims-may (λ base steps. g.B.Budget.may_charge new base steps) (λ base steps id ids may is. g.met.B.Budget.deletion new base steps id ids may is) before after t ready.may;
        ids = let a = ready.ids in omega arith;
      };
      covered = c.pause.ensures.covered;
      wide = c.pause.ensures.wide;
      goes_on = GoesOn-twice (core_of c.args.self.now) before after run (Trims-goes_on before after t);
      count = let a = inv.count in let b = c.settle.ensures.spends.count in omega arith;
      same = g.met.B.Budget.same_transitive c.args.budget.now old new inv.same c.settle.ensures.spends.same;
      within = subst (λ (n : ℕ). All (IsWithin n) c.args.assumptions.now) (sym (c.pause.ensures.variables ∙ c.settle.ensures.variables)) inv.within;
      first = c.pause.ensures.first c.args.assumptions.now (c.settle.ensures.first c.args.assumptions.now c.descend.ensures.ready.first);
    }

pub returns-in_err-pause-clause-spends : goal.returns-in_err-pause-clause-spends
returns-in_err-pause-clause-spends g c =
    let inv = c.loop-reached.invariant in
    let learnt = c.settle.ensures.spends in
    let before = core_of c.settle.new.self in
    let after = core_of c.pause.new.self in
    let t : Trims before after = c.pause.ensures.trims in
    let adds : additions (lines_of c.pause.new.self.steps.items) ≡ additions (lines_of c.settle.new.self.steps.items) = Trims-additions before after t in
    let run = GoesOn-twice (core_of c.args.self.now) (core_of c.loop-reached.self) before inv.goes_on learnt.goes_on in
    record {
      held = c.pause.ensures.held;
      goes_on = GoesOn-twice (core_of c.args.self.now) before after run (Trims-goes_on before after t);
      count = let a = inv.count in let b = learnt.count in omega arith;
      same = g.met.B.Budget.same_transitive c.args.budget.now c.loop-reached.budget c.settle.new.budget inv.same learnt.same;
      may = Trims-may (λ base steps. g.B.Budget.may_charge c.settle.new.budget base steps) (λ base steps id ids may is. g.met.B.Budget.deletion c.settle.new.budget base steps id ids may is) before after t learnt.may;
      spent = search rules;
      offered = search rules;
    }
