use Rattle.std.proofs.Common.{◌↔◌, ℕ, List, length, map, inr, refl, sym, ap, subst, arith}
use Rattle.std.proofs.lemmas.List.{length-map}
use Rattle.qv_words.specs.Problem.{Existential, Holds, Problem, in_order, problem_of}
use Rattle.qv_words.specs.GameLaws.{WinsFrom}
use Rattle.qv_words.specs.Truth.{AreTrue, HasConstantsOf, HoldUnder, constants_of_each}
use Rattle.qv_store.specs.Nodes.{tree_at}
use Rattle.qv_store.specs.Problems.{place_of, problem_in}
use Rattle.qv_store.proofs.Replacement.{grows-more, if-ok}
use Rattle.qv_meter.specs.Views.{limits_of}
use Rattle.qv_prenex.specs.Posed.{values_for}
use Rattle.qv_game.specs.Starting.{IsUncharged}
use Rattle.qv_solve_section.specs.Sections.{IsCounted, IsSectionOf, task_of}
use Rattle.qv_solve.specs.Solutions.{IsDrawn, IsSettled, answer_of, lines_of, variables_of}
use Rattle.qv_solve.specs.Answering.{GivesValues, IsTrueOf}
use Rattle.qv_solve.proofs.Answered.{answer-true, gives-constants, limit-not, when-ok}
use Rattle.qv_solve.proofs.Constants.{first-existential}
use Rattle.qv_solve.proofs.Kept.{started-keeps}
use Rattle.qv_solve.proofs.solving.solve_one.Goals as goal

pub finish-requires-clause-few : goal.finish-requires-clause-few
finish-requires-clause-few c = let few = c.in_ok-problem.ensures.within in omega (arith, few)

pub finish-requires-clause-first : goal.finish-requires-clause-first
finish-requires-clause-first c =
    first-existential (map (tree_at c.args.store.now) c.args.assertions.now) (problem_in c.prenex.new.store c.in_ok-problem.problem) c.in_ok-problem.problem.constants.items c.in_ok-problem.ensures.problem c.in_ok-problem.ensures.constants

pub finish-requires-clause-record : goal.finish-requires-clause-record
finish-requires-clause-record c =
    subst (IsUncharged (problem_in c.prenex.new.store c.in_ok-problem.problem)) (sym c.in_ok-start.ensures.ok) (refl, refl, refl)

pub returns-clause-section : goal.returns-clause-section
returns-clause-section c =
    if-ok c.finish.result (λ s h. subst (λ (p : Problem). IsSectionOf (task_of p c.args.number) (answer_of s) (lines_of s)) c.in_ok-problem.ensures.problem h.section.section) c.finish.ensures.solution

pub returns-clause-counted : goal.returns-clause-counted
returns-clause-counted c =
    if-ok c.finish.result (λ s h. subst (λ (p : Problem). IsCounted (task_of p c.args.number) (answer_of s) (lines_of s) (variables_of s)) c.in_ok-problem.ensures.problem h.section) c.finish.ensures.solution

pub returns-clause-form : goal.returns-clause-form
returns-clause-form c = if-ok c.finish.result (λ s h. h.form) c.finish.ensures.solution

pub returns-clause-truth : goal.returns-clause-truth
returns-clause-truth c =
    let fs = map (tree_at c.args.store.now) c.args.assertions.now in
    let both : Holds (problem_of fs) ↔ AreTrue fs = subst (λ (p : Problem). Holds p ↔ AreTrue fs) c.in_ok-problem.ensures.problem c.in_ok-problem.ensures.holds in
    if-ok c.finish.result (λ s h. answer-true fs (answer_of s) both (subst (λ (p : Problem). IsTrueOf p (answer_of s)) c.in_ok-problem.ensures.problem h.holds)) c.finish.ensures.solution

pub returns-clause-constants : goal.returns-clause-constants
returns-clause-constants c =
    let fs = map (tree_at c.args.store.now) c.args.assertions.now in
    let names = map (λ k. k.0) (in_order (constants_of_each fs)) in
    let e = c.in_ok-problem.ensures.problem in
    let own : (v : List ℕ) → HasConstantsOf v fs → WinsFrom (problem_of fs) Existential (values_for names v) ↔ HoldUnder v fs = λ v has.
    subst (λ (ns : List ℕ). WinsFrom (problem_of fs) Existential (values_for ns v) ↔ HoldUnder v fs) c.in_ok-problem.ensures.constants
    (subst (λ (p : Problem). WinsFrom p Existential (values_for c.in_ok-problem.problem.constants.items v) ↔ HoldUnder v fs) e (c.in_ok-problem.ensures.under_constants v has)) in
    if-ok c.finish.result
    (λ s h. gives-constants fs s c.requires.sorts own
    (subst (λ (ns : List ℕ). GivesValues (problem_of fs) ns s) c.in_ok-problem.ensures.constants (subst (λ (p : Problem). GivesValues p c.in_ok-problem.problem.constants.items s) e h.values))) c.finish.ensures.solution

pub returns-clause-drawn : goal.returns-clause-drawn
returns-clause-drawn c =
    if-ok c.finish.result (λ s h. subst (λ (p : Problem). IsDrawn p c.args.number (answer_of s) (lines_of s) c.finish.new.meter) c.in_ok-problem.ensures.problem h.drawn) c.finish.ensures.solution

pub returns-clause-record : goal.returns-clause-record
returns-clause-record c =
    when-ok c.finish.result (started-keeps (problem_in c.prenex.new.store c.in_ok-problem.problem) (limits_of c.args.limits) c.args.meter.now c.start.new.self c.finish.new.meter c.in_ok-start.ensures.ok c.finish.ensures.records)

pub returns-clause-settled : goal.returns-clause-settled
returns-clause-settled c =
    if-ok c.finish.result (λ s h. subst (λ (p : Problem). IsSettled p c.finish.new.meter s) c.in_ok-problem.ensures.problem h) c.finish.ensures.settled

pub returns-clause-within : goal.returns-clause-within
returns-clause-within c =
    let long = ap (λ (p : Problem). length p.prefix) c.in_ok-problem.ensures.problem in
    let few = c.in_ok-problem.ensures.within in
    when-ok c.finish.result (omega (arith, few, long, length-map c.in_ok-problem.problem.prefix.items place_of))

pub returns-clause-over : goal.returns-clause-over
returns-clause-over c = λ e. absurd (limit-not c.finish.result c.finish.ensures.memory e)

pub returns-clause-memory : goal.returns-clause-memory
returns-clause-memory c = λ e.
    inr (started-keeps (problem_in c.prenex.new.store c.in_ok-problem.problem) (limits_of c.args.limits) c.args.meter.now c.start.new.self c.finish.new.meter c.in_ok-start.ensures.ok c.finish.ensures.records)

pub returns-clause-grows : goal.returns-clause-grows
returns-clause-grows c = grows-more c.args.store.now c.prenex.new.store c.finish.new.store c.prenex.ensures.grows c.finish.ensures.grows
