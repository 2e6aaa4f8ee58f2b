use Rattle.std.proofs.Common.{◌≡◌, ℕ, List, [], All, Option, sym, ap, subst}
use Rattle.std.specs.Prelude.{IfSome}
use Rattle.qv_cnf.specs.Listing.{Numbered}
use Rattle.qv_cnf.specs.LratLine.{lines_of}
use Rattle.qv_sat.specs.declared.outcomes.Outcome.{Outcome}
use Rattle.qv_sat.specs.Answering.{IsFailed, IsFound, OnFound, OnUnsat}
use Rattle.qv_sat.specs.CoreState.{CoreState}
use Rattle.qv_sat.specs.Deciding.{AnswersOn, IsWithin}
use Rattle.qv_sat.proofs.Concluding.{conflict_held, found_held, unsat_held}
use Rattle.qv_sat.proofs.solver.Solver.search.Goals as goal

pub returns-in-Some-clause-found : goal.returns-in-Some-clause-found
returns-in-Some-clause-found g c =
    let s = c.guess.new.self in
    let assumptions = c.args.assumptions.now in
    let within = subst (λ (n : ℕ). All (IsWithin n) assumptions) (sym c.guess.ensures.variables) c.requires.within in
    let none : s.aside.ids.items ≡ [] = subst (λ (o : Option Outcome). IfSome o (λ _. s.aside.ids.items ≡ [])) c.in-Some.is c.in_ok-outcome.ensures.none in
    let answers : AnswersOn s.trail.clauses assumptions s.variables c.in-Some.outcome = subst (λ (o : Option Outcome). IfSome o (AnswersOn s.trail.clauses assumptions s.variables)) c.in-Some.is c.in_ok-outcome.ensures.answer in
    subst (λ (b : List Numbered). OnFound c.in-Some.outcome (IsFound b assumptions)) (ap (λ (k : CoreState). k.base) c.guess.ensures.core)
    (found_held s.base (lines_of s.steps.items) s.trail s.top s.variables s.refuted s.aside assumptions c.in-Some.outcome c.guess.ensures.held none within answers)

pub returns-in-Some-clause-unsat : goal.returns-in-Some-clause-unsat
returns-in-Some-clause-unsat g c =
    let s = c.guess.new.self in
    let assumptions = c.args.assumptions.now in
    let answers : AnswersOn s.trail.clauses assumptions s.variables c.in-Some.outcome = subst (λ (o : Option Outcome). IfSome o (AnswersOn s.trail.clauses assumptions s.variables)) c.in-Some.is c.in_ok-outcome.ensures.answer in
    subst (λ (b : List Numbered). OnUnsat c.in-Some.outcome (IsFailed b assumptions)) (ap (λ (k : CoreState). k.base) c.guess.ensures.core)
    (unsat_held s.base (lines_of s.steps.items) s.trail s.top s.variables s.refuted s.aside assumptions c.in-Some.outcome c.guess.ensures.held answers)

pub returns-in-Some-clause-no_conflict : goal.returns-in-Some-clause-no_conflict
returns-in-Some-clause-no_conflict g c =
    let s = c.guess.new.self in
    let assumptions = c.args.assumptions.now in
    let none : s.aside.ids.items ≡ [] = subst (λ (o : Option Outcome). IfSome o (λ _. s.aside.ids.items ≡ [])) c.in-Some.is c.in_ok-outcome.ensures.none in
    let answers : AnswersOn s.trail.clauses assumptions s.variables c.in-Some.outcome = subst (λ (o : Option Outcome). IfSome o (AnswersOn s.trail.clauses assumptions s.variables)) c.in-Some.is c.in_ok-outcome.ensures.answer in
    conflict_held s.base (lines_of s.steps.items) s.trail s.top s.variables s.refuted s.aside assumptions c.in-Some.outcome c.guess.ensures.held none answers
