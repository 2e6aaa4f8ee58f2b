use Rattle.std.proofs.Common.{◌<◌, ℕ, List, [], ◌∷◌, ◌++◌, sym, ◌∙◌, ap, subst, arith}
use Rattle.std.proofs.lemmas.List.Folds.{list_any-from_Any}
use Rattle.qv_cnf.specs.Listing.{Listing}
use Rattle.qv_cnf.specs.LratLine.{lines_of}
use Rattle.qv_sat.specs.Aside.{is_guard}
use Rattle.qv_sat.specs.CoreState.{CoreState}
use Rattle.qv_sat.specs.Holding.{IsHeld}
use Rattle.qv_sat.proofs.Holdings.{has_none-some, IsHeld-aside, IsHeld-guards}
use Rattle.qv_sat.proofs.solver.Solver.set_aside.Goals as goal

pub returns-in_err-guard-clause-held : goal.returns-in_err-guard-clause-held
returns-in_err-guard-clause-held c =
    let s = c.make_room.new.self in
    IsHeld-guards s.base (lines_of s.steps.items) s.trail s.top s.variables s.refuted s.aside c.guard.new.self c.make_room.ensures.held c.guard.ensures.ids c.guard.ensures.keeps

pub returns-in_err-add-clause-held : goal.returns-in_err-add-clause-held
returns-in_err-add-clause-held c =
    let s = c.make_room.new.self in
    subst (λ (b : Listing). IsHeld b (lines_of s.steps.items) s.trail s.top s.variables s.refuted c.guard.new.self) (sym c.in_err-add.ensures.err)
    (IsHeld-guards s.base (lines_of s.steps.items) s.trail s.top s.variables s.refuted s.aside c.guard.new.self c.make_room.ensures.held c.guard.ensures.ids c.guard.ensures.keeps)

pub returns-clause-held : goal.returns-clause-held
returns-clause-held c =
    let s = c.make_room.new.self in
    let above : s.top < c.args.id = omega (arith, ap (λ (k : CoreState). k.top) c.make_room.ensures.core, c.requires.above) in
    let guards = c.guard.new.self.guards.items in
    let any = c.requires.guard in
    let guard = list_any-from_Any (is_guard guards) c.args.lits.now (any.0, any.1, any.2, any.3, c.in_ok-guard.ensures.guards any.1 any.4) in
    IsHeld-aside s.base c.add.new.self (lines_of s.steps.items) s.trail s.top s.variables s.refuted s.aside record { ids = c.push_reserved.new.self; guards = c.guard.new.self.guards } c.args.id c.args.lits.now c.make_room.ensures.held above c.requires.few (has_none-some c.args.lits.now c.requires.some) c.in_ok-make_room.ensures.within c.in_ok-add.ensures.ok (c.push_reserved.ensures.items ∙ ap (λ (xs : List ℕ). xs ++ c.args.id ∷ []) c.guard.ensures.ids) c.guard.ensures.keeps guard
