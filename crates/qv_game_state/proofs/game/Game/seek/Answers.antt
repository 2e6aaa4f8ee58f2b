use Rattle.std.proofs.Common.{◌≡◌, ◌+◌, ◌-◌, ◌≤◌, ◌<◌, ℕ, List, [], length, map, take, refl, sym, ap, subst, arith}
use Rattle.qv_words.proofs.Elements.{take-length}
use Rattle.qv_entries.specs.Rows.{entries_in}
use Rattle.qv_game_lanes.proofs.Placing.{at-index}
use Rattle.qv_game_lanes.specs.declared.asking.Answer.{Answer}
use Rattle.qv_game_state.specs.Asking.{IsAnswerAt, IsAsked}
use Rattle.qv_game_state.specs.Playing.{tally_of}
use Rattle.qv_game_state.proofs.Asking.{end-within, may-seek, query-within, some-spans, sought-sorts, sought-stays, spans-are}
use Rattle.qv_game_state.proofs.game.Game.seek.Goals as goal

pub overflow_sub-index : goal.overflow_sub-index
overflow_sub-index c =
    let some = some-spans c.args.store.now c.requires.0 c.requires.1 c.args.self.now c.args.meter.now c.requires.2 in
    omega (arith, some, c.len-level.ensures, c.args.self.now.spans.ok.0)

pub index-requires : goal.index-requires
index-requires c =
    let some = some-spans c.args.store.now c.requires.0 c.requires.1 c.args.self.now c.args.meter.now c.requires.2 in
    omega (arith, some, c.len-level.ensures, c.args.self.now.spans.ok.0)

pub slice_bounds-places-end : goal.slice_bounds-places-end
slice_bounds-places-end c =
    let h = c.requires.2 in
    let trees = c.args.store.now in
    let p = c.requires.0 in
    let g = c.args.self.now in
    let level = c.len-level.result in
    let s = c.index.result.now in
    let some = some-spans trees p c.requires.1 g c.args.meter.now h in
    let low : 1 ≤ level = omega (arith, some, c.len-level.ensures, g.spans.ok.0) in
    let in_list : level - 1 < length g.spans.items = omega (arith, some, c.len-level.ensures, g.spans.ok.0) in
    let at = at-index g.spans.items (level - 1) s in_list c.index.ensures in
    let within = end-within trees p c.requires.1 g level c.args.meter.now s h.game low at in
    let many = ap length c.deref.ensures.value in
    sym (take-length c.deref.result.now s.end (omega (arith, within, many)))

pub index_mut-requires : goal.index_mut-requires
index_mut-requires c =
    let h = c.requires.2 in
    let some = some-spans c.args.store.now c.requires.0 c.requires.1 c.args.self.now c.args.meter.now h in
    let count = spans-are c.args.store.now c.requires.0 c.requires.1 c.args.self.now c.args.meter.now h.game in
    let within = query-within c.args.store.now c.requires.0 c.requires.1 c.args.self.now c.len-level.result c.args.meter.now h.game (omega (arith, some, c.len-level.ensures, c.args.self.now.spans.ok.0)) (omega (arith, count, c.len-level.ensures, c.args.self.now.spans.ok.0)) in
    omega (arith, within, c.args.self.now.queries.ok.0)

pub ask-requires : goal.ask-requires
ask-requires c =
    let h = c.requires.2 in
    let trees = c.args.store.now in
    let p = c.requires.0 in
    let limit = c.requires.1 in
    let g = c.args.self.now in
    let m = c.args.meter.now in
    let level = c.len-level.result in
    let s = c.index.result.now in
    let q = c.index_mut.result.now in
    let some = some-spans trees p limit g m h in
    let count = spans-are trees p limit g m h.game in
    let is : level ≡ length g.spans.items = omega (arith, c.len-level.ensures, g.spans.ok.0) in
    let at = at-index g.spans.items (level - 1) s (omega (arith, some, is)) c.index.ensures in
    let within = query-within trees p limit g level m h.game (omega (arith, some, is)) (omega (arith, count, is)) in
    let asked = at-index g.queries.items (level - 1) q within c.index_mut.ensures.value in
    (p, entries_in trees g.entries, limit, map tally_of g.queries.items, subst (λ (ns : List ℕ). IsAsked trees p (entries_in trees g.entries) limit (map tally_of g.queries.items) q (take s.end ns) [] (level + 1) m) (sym c.deref.ensures.value) (may-seek trees p limit g level m s q h is at asked))

pub returns-in_err-values-clause-playing : goal.returns-in_err-values-clause-playing
returns-in_err-values-clause-playing c p limit h =
    let trees = c.args.store.now in
    let g = c.args.self.now in
    let m = c.args.meter.now in
    let level = c.len-level.result in
    let s = c.index.result.now in
    let q = c.index_mut.result.now in
    let some = some-spans trees p limit g m h in
    let count = spans-are trees p limit g m h.game in
    let is : level ≡ length g.spans.items = omega (arith, c.len-level.ensures, g.spans.ok.0) in
    let at = at-index g.spans.items (level - 1) s (omega (arith, some, is)) c.index.ensures in
    let within = query-within trees p limit g level m h.game (omega (arith, some, is)) (omega (arith, count, is)) in
    let asked = at-index g.queries.items (level - 1) q within c.index_mut.ensures.value in
    sought-stays trees p limit g _ level s q c.ask.new.self (take s.end c.deref.result.now) m c.ask.new.meter h is at asked (ap (take s.end) c.deref.ensures.value) refl refl refl refl
    (λ x es l ts given. c.ask.ensures.asked x es l ts given)

pub returns-in-Values-clause-playing : goal.returns-in-Values-clause-playing
returns-in-Values-clause-playing c p limit h =
    let trees = c.args.store.now in
    let g = c.args.self.now in
    let m = c.args.meter.now in
    let level = c.len-level.result in
    let s = c.index.result.now in
    let q = c.index_mut.result.now in
    let some = some-spans trees p limit g m h in
    let count = spans-are trees p limit g m h.game in
    let is : level ≡ length g.spans.items = omega (arith, c.len-level.ensures, g.spans.ok.0) in
    let at = at-index g.spans.items (level - 1) s (omega (arith, some, is)) c.index.ensures in
    let within = query-within trees p limit g level m h.game (omega (arith, some, is)) (omega (arith, count, is)) in
    let asked = at-index g.queries.items (level - 1) q within c.index_mut.ensures.value in
    sought-stays trees p limit g _ level s q c.ask.new.self (take s.end c.deref.result.now) m c.ask.new.meter h is at asked (ap (take s.end) c.deref.ensures.value) refl refl refl refl
    (λ x es l ts given. c.ask.ensures.asked x es l ts given)

pub returns-clause-playing : goal.returns-clause-playing
returns-clause-playing c p limit h =
    let trees = c.args.store.now in
    let g = c.args.self.now in
    let m = c.args.meter.now in
    let level = c.len-level.result in
    let s = c.index.result.now in
    let q = c.index_mut.result.now in
    let some = some-spans trees p limit g m h in
    let count = spans-are trees p limit g m h.game in
    let is : level ≡ length g.spans.items = omega (arith, c.len-level.ensures, g.spans.ok.0) in
    let at = at-index g.spans.items (level - 1) s (omega (arith, some, is)) c.index.ensures in
    let within = query-within trees p limit g level m h.game (omega (arith, some, is)) (omega (arith, count, is)) in
    let asked = at-index g.queries.items (level - 1) q within c.index_mut.ensures.value in
    sought-stays trees p limit g _ level s q c.ask.new.self (take s.end c.deref.result.now) m c.ask.new.meter h is at asked (ap (take s.end) c.deref.ensures.value) refl refl refl refl
    (λ x es l ts given. c.ask.ensures.asked x es l ts given)

pub returns-in-Values-clause-values : goal.returns-in-Values-clause-values
returns-in-Values-clause-values c p limit h =
    let trees = c.args.store.now in
    let g = c.args.self.now in
    let m = c.args.meter.now in
    let level = c.len-level.result in
    let s = c.index.result.now in
    let q = c.index_mut.result.now in
    let some = some-spans trees p limit g m h in
    let count = spans-are trees p limit g m h.game in
    let is : level ≡ length g.spans.items = omega (arith, c.len-level.ensures, g.spans.ok.0) in
    let at = at-index g.spans.items (level - 1) s (omega (arith, some, is)) c.index.ensures in
    let within = query-within trees p limit g level m h.game (omega (arith, some, is)) (omega (arith, count, is)) in
    let asked = at-index g.queries.items (level - 1) q within c.index_mut.ensures.value in
    sought-sorts trees p limit g level m s q (take s.end c.deref.result.now) c.in-Values.values.items h is at asked (ap (take s.end) c.deref.ensures.value)
    (λ x es l ts given. subst (λ (a : Answer). IsAnswerAt trees x q (level + 1) [] a) c.in-Values.is (c.in_ok-values.ensures.answer x es l ts given))
