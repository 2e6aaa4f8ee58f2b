-- A step of a core that may charge a budget.
use Rattle.std.specs.Prelude.{◌≡◌, ◌+◌, ◌-◌, ◌<◌, ◌^◌, ℕ, false, length, Result, Err}
use Rattle.qv_cnf.specs.Derivation.{additions}
use Rattle.qv_cnf.specs.LratLine.{lines_of}
use Rattle.qv_cnf.specs.declared.budgets.Budget.{Ghosts}
use Rattle.qv_sat.specs.CoreState.{GoesOn, MayGoOn}
use Rattle.qv_sat.specs.Holding.{core_of, Held}
use Rattle.qv_sat.specs.declared.outcomes.SatFault.{SatFault}
use Rattle.qv_sat.specs.declared.outcomes.SatFault.TheVariants.{Spent}
use Rattle.qv_sat.specs.declared.solver.Solver.{Solver}

-- what stands before it: the core isn't refuted, a conflict may be charged, and there are ids for
-- all that the budget pays for
pub record MaySpend {B : Type 0} (budget : Ghosts B) (before : B) (old : Solver) : Type 0 where
  pub held : Held old
  pub going : old.refuted ≡ false
  pub may : budget.may_charge before old.base.live (lines_of old.steps.items)
  pub ids : old.top + (budget.limit before - budget.count before) < 2 ^ 62

-- what it does: the core went on by steps, as many conflicts were charged as additions came, and
-- the budget was found spent only at a conflict that it no longer pays for
pub record Spends {B Answer : Type 0} (budget : Ghosts B) (before after : B) (old new : Solver) (result : Result Answer SatFault) : Type 0 where
  pub held : Held new
  pub goes_on : GoesOn (core_of old) (core_of new)
  pub count : budget.count after + additions (lines_of old.steps.items) ≡ budget.count before + additions (lines_of new.steps.items)
  pub same : budget.same_but_count before after
  pub may : budget.may_charge after new.base.live (lines_of new.steps.items)
  pub spent : result ≡ Err Spent → budget.count after ≡ budget.limit after
  pub offered : result ≡ Err Spent → MayGoOn (core_of new)

-- how many conflicts may still be charged, and how many clauses are left aside
abbrev pub left : {B : Type 0} → Ghosts B → B → Solver → ℕ
left budget state s = (budget.limit state - budget.count state) + length s.aside.ids.items
