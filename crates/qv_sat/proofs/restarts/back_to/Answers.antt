use Rattle.std.proofs.Common.{sym, subst}
use Rattle.qv_watch.specs.TrailState.{TrailState}
use Rattle.qv_sat.specs.Deciding.{AssumedFirst}
use Rattle.qv_sat.proofs.Learning.{AssumedFirst-back}
use Rattle.qv_sat.proofs.restarts.back_to.Goals as goal

pub returns-then-level-clause-first : goal.returns-then-level-clause-first
returns-then-level-clause-first c assumptions first =
    let t = c.args.trail.now in
    subst (λ (u : TrailState). AssumedFirst assumptions u.entries) (sym c.take_back.ensures.back) (AssumedFirst-back assumptions t c.args.level c.level.ensures.trail first)
