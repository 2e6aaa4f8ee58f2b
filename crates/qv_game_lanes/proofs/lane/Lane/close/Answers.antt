use Rattle.std.proofs.Common.{◌≡◌, [], refl, sym, ap, ◌∙◌, arith}
use Rattle.qv_cnf.specs.LratLine.{lines_of}
use Rattle.qv_game_lanes.proofs.Growing.{blaster-base, blaster-filled, blaster-none, closed-lane, laid-lane, no-steps}
use Rattle.qv_game_lanes.proofs.lane.Lane.close.Goals as goal

pub laid_core-requires-clause-each : goal.laid_core-requires-clause-each
laid_core-requires-clause-each c =
    let lane = c.requires.lane.2 in
    blaster-filled c.requires.lane.1 c.clauses-clauses.result.now (c.clauses-clauses.ensures.cnf c.requires.lane.0 c.requires.lane.1 lane.blaster) lane.terms

pub returns-then-closed-clause-lane : goal.returns-then-closed-clause-lane
returns-then-closed-clause-lane c trees formulas h =
    let list = c.clauses-clauses.result.now in
    let closed = c.in_ok-closed.closed in
    closed-lane trees formulas c.args.self.now _ h refl refl refl refl
    (blaster-none formulas list (c.clauses-clauses.ensures.cnf trees formulas h.blaster) (c.refuted_has_no_model.ensures list.live (lines_of closed.steps.items) c.may_add-rising.ensures.listing.rises (c.in_ok-closed.ensures.refutes c.if-closed.true)))

pub returns-clause-lane : goal.returns-clause-lane
returns-clause-lane c trees formulas h =
    let list = c.clauses-clauses.result.now in
    let laid = c.in_ok-laid.laid in
    let next = c.in_ok-laid.ensures.next in
    let none : c.args.self.now.core.steps ≡ [] = sym c.steps.ensures.steps ∙ ap lines_of (no-steps c.steps.result.now c.is_empty-2.result c.is_empty-2.ensures c.if-not-is_empty-2.false) in
    laid-lane trees formulas c.args.self.now _ list (lines_of laid.steps.items) h none c.in_ok-laid.ensures.laid (c.in_ok-laid.ensures.base formulas (blaster-base formulas list (c.clauses-clauses.ensures.cnf trees formulas h.blaster)))
    refl (omega (arith, next)) refl refl

pub returns-clause-steps : goal.returns-clause-steps
returns-clause-steps c =
    let none : c.args.self.now.core.steps ≡ [] = sym c.steps.ensures.steps ∙ ap lines_of (no-steps c.steps.result.now c.is_empty-2.result c.is_empty-2.ensures c.if-not-is_empty-2.false) in
    c.in_ok-laid.ensures.laid.fed.steps ∙ sym none
