use Rattle.std.proofs.Common.{List, subst, sym}
use Rattle.qv_cnf.specs.Listing.{Numbered}
use Rattle.qv_sat.specs.Answering.{IsFailed, OnUnsat}
use Rattle.qv_sat.specs.declared.outcomes.Outcome.{Outcome}
use Rattle.qv_game_lanes.specs.Lanes.{base_of}
use Rattle.qv_game_lanes.proofs.Narrowing.{failed-fewer, failed-itself}
use Rattle.qv_game_lanes.proofs.lane.Lane.solve.Goals as goal

pub narrow-requires-clause-failed : goal.narrow-requires-clause-failed
narrow-requires-clause-failed c =
    let base = base_of c.args.self.now in
    let core = c.in-Unsat.core.items in
    let failed : IsFailed base c.args.assumptions.now core = subst (λ (o : Outcome). OnUnsat o (IsFailed base c.args.assumptions.now)) c.in-Unsat.is c.in_ok-model.ensures.unsat in
    subst (λ (b : List Numbered). IsFailed b core core) (sym c.in_ok-model.ensures.base) (failed-itself base c.args.assumptions.now core failed)

pub returns-in_ok-core-in-Unsat-clause-unsat : goal.returns-in_ok-core-in-Unsat-clause-unsat
returns-in_ok-core-in-Unsat-clause-unsat c =
    let base = base_of c.args.self.now in
    let core = c.in-Unsat.core.items in
    let fewer = c.in_ok-core-in-Unsat.core.items in
    let failed : IsFailed base c.args.assumptions.now core = subst (λ (o : Outcome). OnUnsat o (IsFailed base c.args.assumptions.now)) c.in-Unsat.is c.in_ok-model.ensures.unsat in
    failed-fewer base c.args.assumptions.now core fewer failed
    (subst (λ (b : List Numbered). IsFailed b core fewer) c.in_ok-model.ensures.base c.in_ok-core-in-Unsat.ensures.fewer)
