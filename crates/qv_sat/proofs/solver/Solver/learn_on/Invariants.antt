use Rattle.std.proofs.Common.{◌≡◌, ◌+◌, All}
use Rattle.qv_cnf.specs.Derivation.{additions}
use Rattle.qv_cnf.specs.LratLine.{lines_of}
use Rattle.qv_sat.specs.CoreState.{GoesOn}
use Rattle.qv_sat.specs.Deciding.{AssumedFirst, IsWithin}
use Rattle.qv_sat.specs.Holding.{core_of, IsCovered, IsWide}
use Rattle.qv_sat.specs.Spending.{left, MaySpend}
use Rattle.qv_sat.proofs.solver.Solver.learn_on.Given as goal

abbrev pub invariant-loop-reached : goal.invariant-loop-reached
invariant-loop-reached g l = record {
  ready : MaySpend g.B.Budget l.budget l.self;
  covered : IsCovered l.self;
  wide : IsWide l.self;
  goes_on : GoesOn (core_of l.fn.self) (core_of l.self);
  count : g.B.Budget.count l.budget + additions (lines_of l.fn.self.steps.items) ≡ g.B.Budget.count l.fn.budget + additions (lines_of l.self.steps.items);
  same : g.B.Budget.same_but_count l.fn.budget l.budget;
  within : All (IsWithin l.self.variables) l.assumptions;
  first : AssumedFirst l.assumptions l.self.trail.entries;
}

abbrev pub decreases-loop-reached : goal.decreases-loop-reached
decreases-loop-reached g l = left g.B.Budget l.budget l.self
