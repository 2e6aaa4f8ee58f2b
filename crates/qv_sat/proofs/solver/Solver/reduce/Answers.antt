use Rattle.std.proofs.Common.{rules, ◌≡◌, ◌≢◌, ℕ, List, [], ◌∷◌, ◌++◌, Some, All, sym, ◌∙◌, ap, subst, inr}
use Rattle.std.proofs.lemmas.List.Elements.{All-weaker}
use Rattle.std.specs.Prelude.{IsSome}
use Rattle.qv_cnf.specs.Listing.{Rises, clause_named, without}
use Rattle.qv_cnf.specs.LratLine.{LratLine, Deletion, lines_of}
use Rattle.qv_cnf.specs.declared.steps.Step.{Step}
use Rattle.qv_cnf.specs.declared.steps.Step.TheVariants.{Delete}
use Rattle.qv_watch.specs.TrailState.{TrailState}
use Rattle.qv_sat.specs.CoreState.{CoreState}
use Rattle.qv_sat.specs.Holding.{IsHeld}
use Rattle.qv_sat.specs.Reducing.{IsIdle}
use Rattle.qv_sat.proofs.Learning.{lines-push}
use Rattle.qv_sat.proofs.Picking.{listed-idle}
use Rattle.qv_sat.proofs.Reducing.{reduce_derivation, IsHeld-reduce}
use Rattle.qv_sat.proofs.solver.Solver.reduce.Goals as goal

pub detach_all-requires-clause-attached : goal.detach_all-requires-clause-attached
detach_all-requires-clause-attached c =
    let s = c.args.self.now in
    let ids = c.in_ok-ids.ids.items in
    let idle = listed-idle s.base.live s.trail c.deref.result.now ids c.in_ok-ids.ensures in
    let each = All-weaker (IsIdle s.base.live s.trail) (λ id. IsSome (clause_named id s.trail.clauses)) (λ id i. i.attached) ids idle.each in
    subst (λ (ks : List ℕ). All (λ id. IsSome (clause_named id s.trail.clauses)) ks) (sym c.deref-2.ensures.value) each

pub detach_all-requires-clause-rises : goal.detach_all-requires-clause-rises
detach_all-requires-clause-rises c =
    let s = c.args.self.now in
    let ids = c.in_ok-ids.ids.items in
    let idle = listed-idle s.base.live s.trail c.deref.result.now ids c.in_ok-ids.ensures in
    subst (Rises 0) (sym c.deref-2.ensures.value) idle.rises

pub detach_all-requires-clause-no_reason : goal.detach_all-requires-clause-no_reason
detach_all-requires-clause-no_reason c =
    let s = c.args.self.now in
    let ids = c.in_ok-ids.ids.items in
    let idle = listed-idle s.base.live s.trail c.deref.result.now ids c.in_ok-ids.ensures in
    let each = All-weaker (IsIdle s.base.live s.trail) (λ id. All (λ e. e.reason ≢ Some id) s.trail.entries) (λ id i. i.no_reason) ids idle.each in
    subst (λ (ks : List ℕ). All (λ id. All (λ e. e.reason ≢ Some id) s.trail.entries) ks) (sym c.deref-2.ensures.value) each

pub returns-clause-held : goal.returns-clause-held
returns-clause-held c =
    let s = c.args.self.now in
    let lines = lines_of s.steps.items in
    let ids = c.in_ok-ids.ids.items in
    let idle = listed-idle s.base.live s.trail c.deref.result.now ids c.in_ok-ids.ensures in
    let some : ids ≢ [] = search rules in
    let derivation = reduce_derivation s.base lines s.trail s.top s.variables s.refuted s.aside c.requires.held ids idle some in
    let step : Step = Delete s.top c.in_ok-ids.ids in
    let steps : lines_of c.push_reserved.new.self.items ≡ lines ++ Deletion s.top ids ∷ [] =
    ap lines_of (c.push_reserved.ensures.items ∙ ap (λ (xs : List Step). xs ++ step ∷ []) c.in_ok-reserve.ensures.items) ∙ lines-push s.steps.items step in
    let room : c.detach_all.new.trail.room ≡ s.trail.room = ap (λ (t : TrailState). t.room) c.detach_all.ensures in
    let clauses : c.detach_all.new.trail.clauses ≡ without ids s.trail.clauses = ap (λ (t : TrailState). t.clauses) c.detach_all.ensures ∙ ap (λ (ks : List ℕ). without ks s.trail.clauses) c.deref-2.ensures.value in
    subst (λ (ls : List LratLine). IsHeld s.base ls c.detach_all.new.trail s.top s.variables s.refuted s.aside) (sym steps) (IsHeld-reduce s.base lines s.trail s.top s.variables s.refuted s.aside c.requires.held c.detach_all.new.trail ids idle derivation room clauses)

pub returns-clause-trims : goal.returns-clause-trims
returns-clause-trims c =
    let s = c.args.self.now in
    let lines = lines_of s.steps.items in
    let ids = c.in_ok-ids.ids.items in
    let idle = listed-idle s.base.live s.trail c.deref.result.now ids c.in_ok-ids.ensures in
    let some : ids ≢ [] = search rules in
    let derivation = reduce_derivation s.base lines s.trail s.top s.variables s.refuted s.aside c.requires.held ids idle some in
    let step : Step = Delete s.top c.in_ok-ids.ids in
    let steps : lines_of c.push_reserved.new.self.items ≡ lines ++ Deletion s.top ids ∷ [] =
    ap lines_of (c.push_reserved.ensures.items ∙ ap (λ (xs : List Step). xs ++ step ∷ []) c.in_ok-reserve.ensures.items) ∙ lines-push s.steps.items step in
    let with_steps : List LratLine → CoreState = λ ls. record { base = s.base.live; steps = ls; top = s.top } in
    inr (ids, ap with_steps steps, derivation)
