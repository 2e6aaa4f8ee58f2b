use Rattle.std.proofs.Common.{◌+◌, ◌-◌, ℕ, List, length, map, take, refl, sym, ap, subst, arith}
use Rattle.qv_words.proofs.Elements.{take-length}
use Rattle.qv_entries.specs.Rows.{entries_in}
use Rattle.qv_game_lanes.proofs.Placing.{at-index}
use Rattle.qv_game_state.specs.Asking.{IsAsked}
use Rattle.qv_game_state.specs.Playing.{tally_of}
use Rattle.qv_game_state.specs.Spans.{span_of}
use Rattle.qv_game_state.proofs.Asking.{asked-answered, asked-playing, end-within, if-ok, level-span, may-ask, query-within, span-within}
use Rattle.qv_game_state.proofs.game.Game.ask.Goals as goal

pub index-requires : goal.index-requires
index-requires c =
    let low = span-within c.args.store.now c.requires.0 c.requires.1 c.args.self.now c.args.level c.args.meter.now c.requires.2.game c.requires.2.spot.low c.requires.2.spot.high in
    omega (arith, low, c.args.self.now.spans.ok.0)

pub slice_bounds-places-end : goal.slice_bounds-places-end
slice_bounds-places-end c =
    let h = c.requires.2 in
    let s = c.index.result.now in
    let at = at-index c.args.self.now.spans.items (c.args.level - 1) s (span-within c.args.store.now c.requires.0 c.requires.1 c.args.self.now c.args.level c.args.meter.now h.game h.spot.low h.spot.high) c.index.ensures in
    let within = end-within c.args.store.now c.requires.0 c.requires.1 c.args.self.now c.args.level c.args.meter.now s h.game h.spot.low at in
    let many = ap length c.deref.ensures.value in
    sym (take-length c.deref.result.now s.end (omega (arith, within, many)))

pub ask-requires : goal.ask-requires
ask-requires c =
    let trees = c.args.store.now in
    let p = c.requires.0 in
    let limit = c.requires.1 in
    let h = c.requires.2 in
    let g = c.args.self.now in
    let level = c.args.level in
    let m = c.args.meter.now in
    let s = c.index.result.now in
    let q = c.index_mut.result.now in
    let span = at-index g.spans.items (level - 1) s (span-within trees p limit g level m h.game h.spot.low h.spot.high) c.index.ensures in
    let at = at-index g.queries.items (level - 1) q (query-within trees p limit g level m h.game h.spot.low h.spot.high) c.index_mut.ensures.value in
    let f = level-span trees p limit g level m s h.game h.spot.low span in
    let may = may-ask trees p limit g level c.args.point.now m (span_of s) f.0 q h f.1 at in
    (p, entries_in trees g.entries, limit, map tally_of g.queries.items, subst (λ (ns : List ℕ). IsAsked trees p (entries_in trees g.entries) limit (map tally_of g.queries.items) q (take s.end ns) c.args.point.now (level + 1) m) (sym c.deref.ensures.value) may)

pub returns-clause-playing : goal.returns-clause-playing
returns-clause-playing c p limit h =
    let trees = c.args.store.now in
    let g = c.args.self.now in
    let level = c.args.level in
    let m = c.args.meter.now in
    let s = c.index.result.now in
    let q = c.index_mut.result.now in
    let span = at-index g.spans.items (level - 1) s (span-within trees p limit g level m h.game h.spot.low h.spot.high) c.index.ensures in
    let at = at-index g.queries.items (level - 1) q (query-within trees p limit g level m h.game h.spot.low h.spot.high) c.index_mut.ensures.value in
    asked-playing trees p limit g _ level c.args.point.now s q c.ask.new.self (take s.end c.deref.result.now) m c.ask.new.meter h span at (ap (take s.end) c.deref.ensures.value) refl refl refl refl
    (λ x es l ts asked. c.ask.ensures.asked x es l ts asked)

pub returns-clause-answer : goal.returns-clause-answer
returns-clause-answer c =
    let trees = c.args.store.now in
    let g = c.args.self.now in
    let level = c.args.level in
    let m = c.args.meter.now in
    let s = c.index.result.now in
    let q = c.index_mut.result.now in
    if-ok c.ask.result (λ answer given p limit h.
    let span = at-index g.spans.items (level - 1) s (span-within trees p limit g level m h.game h.spot.low h.spot.high) c.index.ensures in
    let at = at-index g.queries.items (level - 1) q (query-within trees p limit g level m h.game h.spot.low h.spot.high) c.index_mut.ensures.value in
    asked-answered trees p limit g level c.args.point.now m s q c.ask.new.self (take s.end c.deref.result.now) answer h span at (ap (take s.end) c.deref.ensures.value) c.ask.ensures.same.1 given) c.ask.ensures.answer
