use Rattle.std.proofs.Common.{◌≡◌, ◌-◌, ◌≤◌, ℕ, Some, List, ap, ◌∙◌, sym, subst, arith}
use Rattle.std.specs.Prelude.{slice_get}
use Rattle.qv_store.proofs.Replacement.{if-ok}
use Rattle.qv_store.specs.Walks.{named}
use Rattle.qv_game_outside.specs.Outside.{HaveNoModel}
use Rattle.qv_game_lanes.proofs.Placing.{at-index}
use Rattle.qv_game_state.proofs.Asking.{query-within}
use Rattle.qv_game_turns.proofs.Outside.{never-asked, query-below, query-terms}
use Rattle.qv_game_turns.proofs.moves.is_never.Goals as goal

pub index-before-requires : goal.index-before-requires
index-before-requires c =
    let h = c.requires in
    let low = query-within c.args.store.now h.0 h.1 c.args.game.now c.args.level h.2 h.3 h.4 h.5 in
    omega (arith, low, c.args.game.now.queries.ok.0)

pub index-query-requires : goal.index-query-requires
index-query-requires c =
    let h = c.requires in
    let low = query-within c.args.store.now h.0 h.1 c.args.game.now c.args.level h.2 h.3 h.4 h.5 in
    omega (arith, low, c.args.game.now.queries.ok.0)

pub never-requires-clause-below : goal.never-requires-clause-below
never-requires-clause-below c =
    let h = c.requires in
    let g = c.args.game.now in
    let low = query-within c.args.store.now h.0 h.1 g c.args.level h.2 h.3 h.4 h.5 in
    let q = c.index-query.result.now in
    let at = at-index g.queries.items (c.args.level - 1) q low c.index-query.ensures in
    query-below c.args.store.now h.0 h.1 g h.2 (c.args.level - 1) q c.deref.result.now h.3 at c.deref.ensures.value

pub never-requires-clause-terms : goal.never-requires-clause-terms
never-requires-clause-terms c =
    let h = c.requires in
    let g = c.args.game.now in
    let low = query-within c.args.store.now h.0 h.1 g c.args.level h.2 h.3 h.4 h.5 in
    let q = c.index-query.result.now in
    let at = at-index g.queries.items (c.args.level - 1) q low c.index-query.ensures in
    query-terms c.args.store.now h.0 h.1 g h.2 (c.args.level - 1) q c.deref.result.now h.3 at c.deref.ensures.value

pub returns : goal.returns
returns c =
    let h = c.requires in
    let trees = c.args.store.now in
    let g = c.args.game.now in
    let level = c.args.level in
    let low = query-within trees h.0 h.1 g level h.2 h.3 h.4 h.5 in
    let q = c.index-query.result.now in
    let at = at-index g.queries.items (level - 1) q low c.index-query.ensures in
    if-ok c.never.result (λ never none yes. never-asked trees g level q c.deref.result.now at c.deref.ensures.value (none yes)) c.never.ensures
