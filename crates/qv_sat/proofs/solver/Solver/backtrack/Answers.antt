use Rattle.std.proofs.Common.{sym, subst, arith}
use Rattle.qv_watch.specs.TrailState.{TrailState}
use Rattle.qv_sat.specs.Deciding.{AssumedFirst}
use Rattle.qv_sat.proofs.Learning.{AssumedFirst-level, AssumedFirst-zero}
use Rattle.qv_sat.proofs.solver.Solver.backtrack.Goals as goal

pub returns-then-level-gt0-clause-first : goal.returns-then-level-gt0-clause-first
returns-then-level-gt0-clause-first c assumptions =
    subst (λ (t : TrailState). AssumedFirst assumptions t.entries) (sym c.take_back.ensures.back) (AssumedFirst-zero assumptions c.args.self.now.trail c.level.ensures.trail)

pub returns-else-level-gt0-clause-first : goal.returns-else-level-gt0-clause-first
returns-else-level-gt0-clause-first c assumptions =
    AssumedFirst-level assumptions c.args.self.now.trail c.level.ensures.trail (omega (arith, c.level.ensures.level))
