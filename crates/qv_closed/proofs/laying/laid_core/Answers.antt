use Rattle.std.proofs.Common.{ℕ, ◌++◌, List, Option, ap, subst}
use Rattle.std.specs.Prelude.{All, IfSome}
use Rattle.qv_cnf.specs.declared.steps.Step.{Step}
use Rattle.qv_cnf.specs.LratLine.{lines_of}
use Rattle.qv_gates.specs.Closing.{added}
use Rattle.qv_lrat_text.specs.Grammar.{HasIds}
use Rattle.qv_closed.specs.Cores.{IsFed}
use Rattle.qv_closed.proofs.Based.{base-laid}
use Rattle.qv_closed.proofs.LaidSteps.{laid-none, laid-with}
use Rattle.qv_closed.proofs.laying.laid_core.Goals as goal

pub returns-in-Some-clause-laid : goal.returns-in-Some-clause-laid
returns-in-Some-clause-laid c =
    let given = c.in_ok-given.given.core in
    let core = c.lay.new.core in
    let read = c.deref-2.result.now in
    let fed : IsFed core (given.base ++ added (lines_of read)) = subst (λ (o : Option ℕ). IfSome o (λ next. IsFed core (given.base ++ added (lines_of read)))) c.in-Some.is c.in_ok-next.ensures.fed in
    let ids : All HasIds (lines_of read) = subst (λ (o : Option ℕ). IfSome o (λ next. All HasIds (lines_of read))) c.in-Some.is c.in_ok-next.ensures.ids in
    laid-with given core c.args.clauses.now.live (lines_of c.args.steps.items) c.requires.adds c.in_ok-given.ensures.fed
    (subst (λ (xs : List Step). IsFed core (given.base ++ added (lines_of xs))) c.deref-2.ensures.value fed) (subst (λ (xs : List Step). All HasIds (lines_of xs)) c.deref-2.ensures.value ids)

pub returns-in-Some-clause-base : goal.returns-in-Some-clause-base
returns-in-Some-clause-base c formulas h =
    base-laid c.args.clauses.now.live (lines_of c.args.steps.items) c.lay.new.core formulas (returns-in-Some-clause-laid c) h

pub returns-clause-laid : goal.returns-clause-laid
returns-clause-laid c = laid-none c.in_ok-plain.plain.core c.args.clauses.now.live (lines_of c.new.result.items) (ap lines_of c.new.ensures.items) c.in_ok-plain.ensures.fed

pub returns-clause-base : goal.returns-clause-base
returns-clause-base c formulas h =
    base-laid c.args.clauses.now.live (lines_of c.new.result.items) c.in_ok-plain.plain.core formulas (returns-clause-laid c) h
