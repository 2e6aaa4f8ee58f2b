use Rattle.std.proofs.Common.{◌≡◌, List, length}
use Rattle.qv_cnf.specs.Literal.{Literal}
use Rattle.qv_sat.specs.Deciding.{AssumedFirst}
use Rattle.qv_sat.specs.Holding.{core_of, Held, IsCovered, IsWide}
use Rattle.qv_sat.proofs.solver.Solver.attach_aside.Given as goal

abbrev pub invariant-aside : goal.invariant-aside
invariant-aside l = record {
  held : Held l.self;
  covered : IsCovered l.self;
  wide : IsWide l.self;
  core : core_of l.self ≡ core_of l.fn.self;
  refuted : l.self.refuted ≡ l.fn.self.refuted;
  variables : l.self.variables ≡ l.fn.self.variables;
  level : l.self.trail.level ≡ 0;
  first : (assumptions : List Literal) → AssumedFirst assumptions l.self.trail.entries;
}

abbrev pub decreases-aside : goal.decreases-aside
decreases-aside l = length l.self.aside.ids.items
