use Rattle.std.proofs.Common.{◌-◌, List, length, map, sym, ap, subst, arith}
use Rattle.qv_words.proofs.Elements.{take-length}
use Rattle.std.specs.List.{All}
use Rattle.qv_game_regions.specs.declared.run.Run.{Run}
use Rattle.qv_game_regions.specs.Runs.{fixing_at, run_of, IsRunAt}
use Rattle.qv_words.specs.Problem.{conjunction}
use Rattle.qv_store.specs.Stores.{StandsAt}
use Rattle.qv_store.proofs.Replacement.{if-ok}
use Rattle.qv_game_lanes.proofs.Placing.{at-index}
use Rattle.qv_game_turns.proofs.Forcing.{runs-at}
use Rattle.qv_game_turns.proofs.Moving.{force-failing, force-few, force-region, force-runs}
use Rattle.qv_game_state.proofs.Asking.{end-within, query-within, span-within}
use Rattle.qv_game_turns.proofs.moves.fix_failed.Goals as goal

pub index-requires : goal.index-requires
index-requires c =
    let h = c.requires.4 in
    let low = span-within c.args.store.now c.requires.1 c.requires.2 c.args.game.now c.args.level c.requires.3 h.game h.low h.high in
    omega (arith, low, c.args.game.now.spans.ok.0)

pub slice_bounds-failed_runs-end : goal.slice_bounds-failed_runs-end
slice_bounds-failed_runs-end c =
    let h = c.requires.4 in
    let trees = c.args.store.now in
    let g = c.args.game.now in
    let s = c.index.result.now in
    let span = at-index g.spans.items (c.args.level - 1) s (span-within trees c.requires.1 c.requires.2 g c.args.level c.requires.3 h.game h.low h.high) c.index.ensures in
    let within = end-within trees c.requires.1 c.requires.2 g c.args.level c.requires.3 s h.game h.low span in
    let many = ap length c.deref.ensures.value in
    sym (take-length c.deref.result.now s.end (omega (arith, within, many)))

pub failed_runs-requires-clause-lane : goal.failed_runs-requires-clause-lane
failed_runs-requires-clause-lane c =
    let h = c.requires.4 in
    let trees = c.args.store.now in
    let g = c.args.game.now in
    let q = c.index-2.result.now in
    let at = at-index g.queries.items (c.args.level - 1) q (query-within trees c.requires.1 c.requires.2 g c.args.level c.requires.3 h.game h.low h.high) c.index-2.ensures in
    (_, (h.game.queries (c.args.level - 1) q at).lane)

pub failed_runs-requires-clause-few : goal.failed_runs-requires-clause-few
failed_runs-requires-clause-few c =
    let h = c.requires.4 in
    let trees = c.args.store.now in
    let g = c.args.game.now in
    let s = c.index.result.now in
    let span = at-index g.spans.items (c.args.level - 1) s (span-within trees c.requires.1 c.requires.2 g c.args.level c.requires.3 h.game h.low h.high) c.index.ensures in
    force-few trees c.requires.0 c.requires.1 c.requires.2 g c.args.level c.args.point.now c.args.core.now c.requires.3 s c.deref.result.now h span c.deref.ensures.value

pub fix-requires : goal.fix-requires
fix-requires c =
    let h = c.requires.4 in
    let trees = c.args.store.now in
    let g = c.args.game.now in
    let s = c.index.result.now in
    let span = at-index g.spans.items (c.args.level - 1) s (span-within trees c.requires.1 c.requires.2 g c.args.level c.requires.3 h.game h.low h.high) c.index.ensures in
    let q = c.index-2.result.now in
    let at = at-index g.queries.items (c.args.level - 1) q (query-within trees c.requires.1 c.requires.2 g c.args.level c.requires.3 h.game h.low h.high) c.index-2.ensures in
    let named_is = force-runs trees g s q c.deref.result.now c.in_ok-runs.runs.items c.args.core.now c.args.point.now c.deref.ensures.value c.in_ok-runs.ensures in
    let failing = force-failing trees c.requires.0 c.requires.1 c.requires.2 g c.args.level c.args.point.now c.args.core.now c.requires.3 s q c.in_ok-runs.runs.items h span at named_is in
    subst (λ (rs : List Run). All (λ (run : Run). IsRunAt c.args.point.now (run_of run)) rs) (sym c.deref-2.ensures.value)
    (runs-at trees c.requires.1 _ c.args.level _ failing.0 _ c.args.point.now q.lane _ c.args.core.now c.in_ok-runs.runs.items failing.1)

pub returns-clause-forced : goal.returns-clause-forced
returns-clause-forced c =
    let trees = c.args.store.now in
    let g = c.args.game.now in
    let s = c.index.result.now in
    let q = c.index-2.result.now in
    let runs = c.in_ok-runs.runs.items in
    let named_is = force-runs trees g s q c.deref.result.now runs c.args.core.now c.args.point.now c.deref.ensures.value c.in_ok-runs.ensures in
    if-ok c.fix.result (λ region put posed p limit m h b block.
    let stands = subst (λ (rs : List Run). StandsAt c.fix.new.store region (conjunction (map (fixing_at c.args.point.now) rs))) c.deref-2.ensures.value put in
    let span = at-index g.spans.items (c.args.level - 1) s (span-within trees p limit g c.args.level m h.game h.low h.high) c.index.ensures in
    let at = at-index g.queries.items (c.args.level - 1) q (query-within trees p limit g c.args.level m h.game h.low h.high) c.index-2.ensures in
    force-region trees c.fix.new.store posed p limit g c.args.level c.args.point.now c.args.core.now m s q runs region b h span at named_is c.fix.ensures.grows stands block) c.fix.ensures.id
