use Rattle.std.proofs.Common.{refl, sym, subst}
use Rattle.qv_store.specs.Problems.{quantifier_of}
use Rattle.qv_store.specs.Walks.{named}
use Rattle.qv_meter.specs.Records.{Metering}
use Rattle.qv_meter.specs.Charging.{MayCharge}
use Rattle.qv_game_play_laws.specs.PlayLaws.{sorts_below}
use Rattle.qv_game_play_laws.proofs.Queries.{queries-are_over_places}
use Rattle.qv_game_lanes.specs.Lanes.{base_of, steps_of}
use Rattle.qv_game_state.specs.declared.query.Query.{Query}
use Rattle.qv_game_state.proofs.Answered.{asked-few, asked-whole, may-charge, stands-at}
use Rattle.qv_game_state.proofs.query.Query.ask.Goals as goal

pub ask-requires-clause-asked : goal.ask-requires-clause-asked
ask-requires-clause-asked c =
    let p = c.requires.0 in
    let entries = c.requires.1 in
    let h = c.requires.4 in
    let trees = c.args.store.now in
    let q = c.args.self.now in
    let formulas = named trees q.list.items in
    let stands = stands-at trees p entries c.requires.2 c.args.level q h.of_level.low h.query in
    (formulas, sorts_below p c.args.level, h.query.lane, (queries-are_over_places p entries (quantifier_of q.winner) c.args.level formulas h.problem h.played stands).1, h.at_places)

pub ask-requires-clause-may : goal.ask-requires-clause-may
ask-requires-clause-may c =
    let lane = c.args.self.now.lane in
    subst (λ (m : Metering). MayCharge m (base_of lane) (steps_of lane)) (sym c.lane.ensures)
    (may-charge c.args.store.now c.requires.0 c.requires.1 c.requires.2 c.requires.3 c.args.self.now c.args.places.now c.args.point.now c.args.level c.args.meter.now c.requires.4)

pub ask-requires-clause-few : goal.ask-requires-clause-few
ask-requires-clause-few c =
    asked-few c.args.store.now c.requires.0 c.requires.1 c.requires.2 c.requires.3 c.args.self.now c.args.places.now c.args.point.now c.args.level c.args.meter.now c.lane.new.self c.requires.4 c.lane.ensures c.newest-record.ensures.metering

pub returns-in-Ok-clause-asked : goal.returns-in-Ok-clause-asked
returns-in-Ok-clause-asked c p entries limit tallies h =
    let trees = c.args.store.now in
    let old = c.args.self.now in
    let new : Query = record { winner = old.winner; list = old.list; lane = c.ask.new.self } in
    asked-whole trees p entries limit tallies old new c.args.places.now c.args.point.now c.args.level c.args.meter.now c.lane.new.self c.ask.new.meter refl refl c.lane.ensures c.ask.ensures.lane c.ask.ensures.limit c.ask.ensures.same c.ask.ensures.may h

pub returns-in-Ok-clause-answer : goal.returns-in-Ok-clause-answer
returns-in-Ok-clause-answer c p entries limit tallies h =
    let trees = c.args.store.now in
    let q = c.args.self.now in
    let formulas = named trees q.list.items in
    let stands = stands-at trees p entries limit c.args.level q h.of_level.low h.query in
    c.in-Ok.ensures.answer formulas (sorts_below p c.args.level) h.query.lane (queries-are_over_places p entries (quantifier_of q.winner) c.args.level formulas h.problem h.played stands).1 h.at_places

pub returns-in-Err-Spent-clause-asked : goal.returns-in-Err-Spent-clause-asked
returns-in-Err-Spent-clause-asked c p entries limit tallies h =
    let trees = c.args.store.now in
    let old = c.args.self.now in
    let new : Query = record { winner = old.winner; list = old.list; lane = c.ask.new.self } in
    asked-whole trees p entries limit tallies old new c.args.places.now c.args.point.now c.args.level c.args.meter.now c.lane.new.self c.ask.new.meter refl refl c.lane.ensures c.ask.ensures.lane c.ask.ensures.limit c.ask.ensures.same c.ask.ensures.may h

pub returns-in-Err-NoMemory-clause-asked : goal.returns-in-Err-NoMemory-clause-asked
returns-in-Err-NoMemory-clause-asked c p entries limit tallies h =
    let trees = c.args.store.now in
    let old = c.args.self.now in
    let new : Query = record { winner = old.winner; list = old.list; lane = c.ask.new.self } in
    asked-whole trees p entries limit tallies old new c.args.places.now c.args.point.now c.args.level c.args.meter.now c.lane.new.self c.ask.new.meter refl refl c.lane.ensures c.ask.ensures.lane c.ask.ensures.limit c.ask.ensures.same c.ask.ensures.may h
