use Rattle.std.proofs.Common.{◌-◌, ◌≤◌, arith}
use Rattle.qv_store.proofs.Replacement.{if-ok}
use Rattle.qv_game_lanes.proofs.Placing.{at-index}
use Rattle.qv_game_state.proofs.Asking.{query-within}
use Rattle.qv_game_turns.proofs.Outside.{if-some, outside-region, query-below, query-terms}
use Rattle.qv_game_turns.proofs.moves.outside_of.Goals as goal

pub index-before-requires : goal.index-before-requires
index-before-requires c =
    let h = c.requires in
    let low = query-within c.args.store.now h.0 h.1 c.args.game.now c.args.level h.2 h.3 h.4 h.5 in
    omega (arith, low, c.args.game.now.queries.ok.0)

pub index-query-requires : goal.index-query-requires
index-query-requires c =
    let h = c.requires in
    let low = query-within c.args.store.now h.0 h.1 c.args.game.now c.args.level h.2 h.3 h.4 h.5 in
    omega (arith, low, c.args.game.now.queries.ok.0)

pub outside-requires-clause-denials : goal.outside-requires-clause-denials
outside-requires-clause-denials c =
    let h = c.requires in
    let g = c.args.game.now in
    let low = query-within c.args.store.now h.0 h.1 g c.args.level h.2 h.3 h.4 h.5 in
    let q = c.index-before.result.now in
    let at = at-index g.queries.items (c.args.level - 1 - 1) q (omega (arith, low)) c.index-before.ensures in
    query-below c.args.store.now h.0 h.1 g h.2 (c.args.level - 1 - 1) q c.deref.result.now h.3 at c.deref.ensures.value

pub outside-requires-clause-denial_terms : goal.outside-requires-clause-denial_terms
outside-requires-clause-denial_terms c =
    let h = c.requires in
    let g = c.args.game.now in
    let low = query-within c.args.store.now h.0 h.1 g c.args.level h.2 h.3 h.4 h.5 in
    let q = c.index-before.result.now in
    let at = at-index g.queries.items (c.args.level - 1 - 1) q (omega (arith, low)) c.index-before.ensures in
    query-terms c.args.store.now h.0 h.1 g h.2 (c.args.level - 1 - 1) q c.deref.result.now h.3 at c.deref.ensures.value

pub outside-requires-clause-asked : goal.outside-requires-clause-asked
outside-requires-clause-asked c =
    let h = c.requires in
    let g = c.args.game.now in
    let low = query-within c.args.store.now h.0 h.1 g c.args.level h.2 h.3 h.4 h.5 in
    let q = c.index-query.result.now in
    let at = at-index g.queries.items (c.args.level - 1) q low c.index-query.ensures in
    query-below c.args.store.now h.0 h.1 g h.2 (c.args.level - 1) q c.deref-2.result.now h.3 at c.deref-2.ensures.value

pub outside-requires-clause-asked_terms : goal.outside-requires-clause-asked_terms
outside-requires-clause-asked_terms c =
    let h = c.requires in
    let g = c.args.game.now in
    let low = query-within c.args.store.now h.0 h.1 g c.args.level h.2 h.3 h.4 h.5 in
    let q = c.index-query.result.now in
    let at = at-index g.queries.items (c.args.level - 1) q low c.index-query.ensures in
    query-terms c.args.store.now h.0 h.1 g h.2 (c.args.level - 1) q c.deref-2.result.now h.3 at c.deref-2.ensures.value

pub returns-clause-none : goal.returns-clause-none
returns-clause-none c =
    let h = c.requires in
    let trees = c.args.store.now in
    let new = c.outside.new.store in
    let g = c.args.game.now in
    let level = c.args.level in
    let low = query-within trees h.0 h.1 g level h.2 h.3 h.4 h.5 in
    let some : 2 ≤ level = omega (arith, c.if-level-lt2.false) in
    let before = at-index g.queries.items (level - 1 - 1) c.index-before.result.now (omega (arith, low)) c.index-before.ensures in
    let query = at-index g.queries.items (level - 1) c.index-query.result.now low c.index-query.ensures in
    if-ok c.outside.result
    (λ found left. if-some _ _ found (λ id none. outside-region trees new g level c.index-before.result.now c.index-query.result.now c.deref.result.now c.deref-2.result.now id some before query c.deref.ensures.value c.deref-2.ensures.value none) left)
    c.outside.ensures.none
