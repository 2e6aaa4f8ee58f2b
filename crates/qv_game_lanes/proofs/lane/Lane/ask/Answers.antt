use Rattle.std.proofs.Common.{List, length, subst}
use Rattle.qv_cnf.specs.Literal.{Literal}
use Rattle.qv_sat.specs.Answering.{IsFailed, IsFound, OnFound, OnUnsat}
use Rattle.qv_sat.specs.declared.outcomes.Outcome.{Outcome}
use Rattle.qv_game_lanes.proofs.Asked.{behind-sorts, behind-values, failed-leaves, found-leads, point-within}
use Rattle.qv_game_lanes.proofs.lane.Lane.ask.Goals as goal

pub assume-requires-clause-few : goal.assume-requires-clause-few
assume-requires-clause-few c = point-within c.args.store.now c.args.places.now c.requires.asked.1 c.args.point.now c.requires.asked.4

pub slice_bounds-behind-count : goal.slice_bounds-behind-count
slice_bounds-behind-count c = point-within c.args.store.now c.args.places.now c.requires.asked.1 c.args.point.now c.requires.asked.4

pub slice_bounds-behind-start : goal.slice_bounds-behind-start
slice_bounds-behind-start c = point-within c.args.store.now c.args.places.now c.requires.asked.1 c.args.point.now c.requires.asked.4

pub returns-in-Found-clause-answer : goal.returns-in-Found-clause-answer
returns-in-Found-clause-answer c formulas sorts lane over places =
    let trees = c.args.store.now in
    let lits = c.in_ok-assumptions.assumptions.items in
    let values = c.in_ok-values_in-in-Found.field-0.items in
    let model = c.in-Found.model.items in
    let base = c.args.self.now.core.base in
    let found : IsFound base c.deref.result.now model = subst (λ (o : Outcome). OnFound o (IsFound base c.deref.result.now)) c.in-Found.is c.in_ok-model.ensures.found in
    found-leads trees formulas c.args.places.now sorts c.args.point.now values c.args.self.now lits model lane over places c.in_ok-assumptions.ensures
    (subst (λ (ls : List Literal). IsFound base ls model) c.deref.ensures.value found)
    (behind-sorts trees c.args.places.now (length c.args.point.now) values c.in_ok-values_in-in-Found.ensures.sorts)
    (behind-values trees c.args.places.now (length c.args.point.now) values model c.deref-in-Found.result.now c.args.self.now.blaster c.solve.new.self.blaster c.in_ok-values_in-in-Found.ensures.values c.deref-in-Found.ensures.value c.solve.ensures.blaster)

pub returns-clause-answer : goal.returns-clause-answer
returns-clause-answer c formulas sorts lane over places =
    let base = c.args.self.now.core.base in
    let core = c.in-Unsat.core.items in
    let failed : IsFailed base c.deref.result.now core = subst (λ (o : Outcome). OnUnsat o (IsFailed base c.deref.result.now)) c.in-Unsat.is c.in_ok-model.ensures.unsat in
    failed-leaves c.rup_is_true.ensures c.args.store.now formulas c.args.places.now sorts c.args.point.now c.args.self.now c.in_ok-assumptions.assumptions.items core lane places c.in_ok-assumptions.ensures
    (subst (λ (ls : List Literal). IsFailed base ls core) c.deref.ensures.value failed)
