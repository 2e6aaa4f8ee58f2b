use Rattle.std.proofs.Common.{◌≡◌, ◌<◌, ◌≤◌, ◌⊎◌, ◌≢◌, ℕ, true, false, List, [], ◌∷◌, ◌++◌, Some, All, AllPairs, map, pos}
use Rattle.std.specs.Prelude.{IsSome}
use Rattle.qv_cnf.specs.Derivation.{spares_hint, spares_literal}
use Rattle.qv_cnf.specs.Listing.{clause_named}
use Rattle.qv_cnf.specs.Literal.{Literal}
use Rattle.qv_cnf.specs.Refutation.{IsRup, among}
use Rattle.qv_learn.proofs.Analysing.{of_analysed}
use Rattle.qv_learn.specs.Learning.{Asserts, LearnsPoint, MayBeLeftOut, MayStand, level_at}
use Rattle.qv_learn.specs.declared.analysis.Learnt.{Learnt}
use Rattle.qv_watch.specs.Entries.{value_of}
use Rattle.qv_learn.proofs.learner.Learner.analyse.Goals as goal

pub returns-clause-rup : goal.returns-clause-rup
returns-clause-rup c =
    let t = c.args.trail.now in
    of_analysed t c.args.conflict (λ (x : Learnt). IsRup t.clauses x.lits.items (map pos x.hints.items)) c.learn.result c.learn.ensures.learnt (λ x a. a.refutes)

pub returns-clause-attached : goal.returns-clause-attached
returns-clause-attached c =
    let t = c.args.trail.now in
    of_analysed t c.args.conflict (λ (x : Learnt). All (λ id. IsSome (clause_named id t.clauses)) x.hints.items) c.learn.result c.learn.ensures.learnt (λ x a. a.attached)

pub returns-clause-literals_needed : goal.returns-clause-literals_needed
returns-clause-literals_needed c =
    let t = c.args.trail.now in
    of_analysed t c.args.conflict (λ (x : Learnt). spares_literal t.clauses x.lits.items (map pos x.hints.items) ≡ false) c.learn.result c.learn.ensures.learnt (λ x a. a.literals_needed)

pub returns-clause-hints_needed : goal.returns-clause-hints_needed
returns-clause-hints_needed c =
    let t = c.args.trail.now in
    of_analysed t c.args.conflict (λ (x : Learnt). spares_hint t.clauses x.lits.items (map pos x.hints.items) ≡ false) c.learn.result c.learn.ensures.learnt (λ x a. a.hints_needed)

pub returns-clause-last : goal.returns-clause-last
returns-clause-last c =
    let t = c.args.trail.now in
    of_analysed t c.args.conflict (λ (x : Learnt). (before : List ℕ) × (x.hints.items ≡ before ++ c.args.conflict ∷ [])) c.learn.result c.learn.ensures.learnt (λ x a. a.last)

pub returns-clause-falsified : goal.returns-clause-falsified
returns-clause-falsified c =
    let t = c.args.trail.now in
    of_analysed t c.args.conflict (λ (x : Learnt). All (λ l. value_of t.entries l ≡ Some false) x.lits.items) c.learn.result c.learn.ensures.learnt (λ x a. a.gathered.falsified)

pub returns-clause-apart : goal.returns-clause-apart
returns-clause-apart c =
    let t = c.args.trail.now in
    of_analysed t c.args.conflict (λ (x : Learnt). AllPairs (λ l m. l.variable ≢ m.variable) x.lits.items) c.learn.result c.learn.ensures.learnt (λ x a. a.gathered.apart)

pub returns-clause-above_zero : goal.returns-clause-above_zero
returns-clause-above_zero c =
    let t = c.args.trail.now in
    of_analysed t c.args.conflict (λ (x : Learnt). All (λ l. 1 ≤ level_at t.entries l) x.lits.items) c.learn.result c.learn.ensures.learnt (λ x a. a.gathered.above_zero)

pub returns-clause-at_zero : goal.returns-clause-at_zero
returns-clause-at_zero c zero =
    let t = c.args.trail.now in
    of_analysed t c.args.conflict (λ (x : Learnt). (x.lits.items ≡ []) × (x.level ≡ 0)) c.learn.result c.learn.ensures.learnt (λ x a. a.gathered.at_zero zero)

pub returns-clause-asserts : goal.returns-clause-asserts
returns-clause-asserts c above =
    let t = c.args.trail.now in
    of_analysed t c.args.conflict (λ (x : Learnt). Asserts t x.lits.items x.level) c.learn.result c.learn.ensures.learnt (λ x a. a.gathered.asserts above)

pub returns-clause-others : goal.returns-clause-others
returns-clause-others c =
    let t = c.args.trail.now in
    of_analysed t c.args.conflict (λ (x : Learnt). All (λ l. level_at t.entries l < t.level → MayStand t c.args.conflict x.hints.items l) x.lits.items) c.learn.result c.learn.ensures.learnt (λ x a. a.gathered.others)

pub returns-clause-left_out : goal.returns-clause-left_out
returns-clause-left_out c =
    let t = c.args.trail.now in
    of_analysed t c.args.conflict (λ (x : Learnt). (l : Literal) → MayStand t c.args.conflict x.hints.items l → (among x.lits.items l ≡ true) ⊎ MayBeLeftOut t c.args.conflict x.hints.items l) c.learn.result c.learn.ensures.learnt (λ x a. a.gathered.left_out)

pub returns-clause-minimal : goal.returns-clause-minimal
returns-clause-minimal c =
    let t = c.args.trail.now in
    of_analysed t c.args.conflict (λ (x : Learnt). All (λ l. level_at t.entries l < t.level → MayBeLeftOut t c.args.conflict x.hints.items l → ⊥) x.lits.items) c.learn.result c.learn.ensures.learnt (λ x a. a.gathered.minimal)

pub returns-clause-first_point : goal.returns-clause-first_point
returns-clause-first_point c above =
    let t = c.args.trail.now in
    of_analysed t c.args.conflict (λ (x : Learnt). LearnsPoint t c.args.conflict x.lits.items) c.learn.result c.learn.ensures.learnt (λ x a. a.first_point above)
