use Rattle.std.proofs.Common.{◌-◌, refl, ap, arith}
use Rattle.qv_words.specs.Problem.{other}
use Rattle.qv_words.specs.Word.{values_of}
use Rattle.qv_store.proofs.Replacement.{grows-more}
use Rattle.qv_game_lanes.proofs.Placing.{at-index}
use Rattle.qv_game_state.proofs.Asking.{query-within}
use Rattle.qv_game_turns.proofs.Moving.{force-enters, force-links, force-rows, forced-in, on-three, region-formula}
use Rattle.qv_game_turns.proofs.Outside.{block-there}
use Rattle.qv_game_turns.proofs.moves.force.Goals as goal

pub forced_region-requires : goal.forced_region-requires
forced_region-requires c = (c.args.problem.now, c.requires.0, c.requires.1, c.args.meter.now, c.requires.2)

pub index-requires : goal.index-requires
index-requires c =
    let h = c.requires.2 in
    let low = query-within c.args.store.now c.requires.0 c.requires.1 c.args.game.now c.args.level c.args.meter.now h.game h.low h.high in
    omega (arith, low, c.args.game.now.queries.ok.0)

pub links_from-requires-clause-region : goal.links_from-requires-clause-region
links_from-requires-clause-region c =
    let h = c.requires.2 in
    let block = block-there c.requires.0 c.args.level h.low h.high in
    region-formula c.forced_region.new.store c.requires.0 c.args.game.now.entries c.args.level (other block.0.owner) c.args.point.now c.in_ok-region.region
    (c.in_ok-region.ensures.forced c.args.problem.now c.requires.0 c.requires.1 c.args.meter.now h block.0 block.1)

pub links_from-requires-clause-rows : goal.links_from-requires-clause-rows
links_from-requires-clause-rows c =
    force-rows c.args.store.now c.forced_region.new.store c.requires.0 c.requires.1 c.args.game.now c.args.meter.now c.requires.2.game c.forced_region.ensures.grows

pub enter-requires : goal.enter-requires
enter-requires c =
    let h = c.requires.2 in
    let p = c.requires.0 in
    let limit = c.requires.1 in
    let trees = c.args.store.now in
    let g = c.args.game.now in
    let q = c.index.result.now in
    let at = at-index g.queries.items (c.args.level - 1) q (query-within trees p limit g c.args.level c.args.meter.now h.game h.low h.high) c.index.ensures in
    let block = block-there p c.args.level h.low h.high in
    let forces = c.in_ok-region.ensures.forced c.args.problem.now p limit c.args.meter.now h block.0 block.1 in
    let may = force-enters trees c.forced_region.new.store c.args.problem.now p limit g c.args.level c.args.point.now c.in_ok-from_slice.field-0.items c.args.core.now c.args.meter.now q c.in_ok-region.region c.new.result.items c.in_ok-links.links.items block.0 h at block.1
    c.forced_region.ensures.grows forces (c.in_ok-links.ensures p (force-links trees p limit g c.args.meter.now h.game)) c.new.ensures.items c.in_ok-from_slice.ensures.items in
    (p, limit, may)

pub returns-clause-entered : goal.returns-clause-entered
returns-clause-entered c =
    let trees = c.args.store.now in
    let g = c.args.game.now in
    let q = c.index.result.now in
    on-three c.enter.result (λ given rows number number_is p limit h b block.
    let at = at-index g.queries.items (c.args.level - 1) q (query-within trees p limit g c.args.level c.args.meter.now h.game h.low h.high) c.index.ensures in
    let forces = c.in_ok-region.ensures.forced c.args.problem.now p limit c.args.meter.now h b block in
    let may = force-enters trees c.forced_region.new.store c.args.problem.now p limit g c.args.level c.args.point.now c.in_ok-from_slice.field-0.items c.args.core.now c.args.meter.now q c.in_ok-region.region c.new.result.items c.in_ok-links.links.items b h at block
    c.forced_region.ensures.grows forces (c.in_ok-links.ensures p (force-links trees p limit g c.args.meter.now h.game)) c.new.ensures.items c.in_ok-from_slice.ensures.items in
    let who = (h.game.queries (c.args.level - 1) q at).opponent b block in
    forced-in c.enter.new.store p limit g c.enter.new.self c.args.level number (other b.owner) _ c.args.point.now c.enter.new.meter _ (given p limit may) rows refl who (ap values_of c.in_ok-from_slice.ensures.items) number_is) c.enter.ensures.entered c.enter.ensures.row c.enter.ensures.number

pub returns-clause-grows : goal.returns-clause-grows
returns-clause-grows c = grows-more c.args.store.now c.forced_region.new.store c.enter.new.store c.forced_region.ensures.grows c.enter.ensures.grows
