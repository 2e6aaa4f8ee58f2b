use Rattle.qv_game_lanes.proofs.Solved.{failed-alone}
use Rattle.qv_game_lanes.proofs.lane.Lane.search.Goals as goal

pub returns-then-self-clause-unsat : goal.returns-then-self-clause-unsat
returns-then-self-clause-unsat c =
    failed-alone c.requires.lane.0 c.requires.lane.1 c.args.self.now c.args.assumptions.now c.new.result.items c.new.ensures.items c.requires.lane.2 c.if-self.true
