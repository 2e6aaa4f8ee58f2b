use Rattle.std.proofs.Common.{◌-◌, sym, arith}
use Rattle.qv_words.proofs.Elements.{take-length}
use Rattle.qv_store.specs.Nodes.{tree_at}
use Rattle.qv_store.proofs.Replacement.{grows-more}
use Rattle.qv_game_lanes.proofs.Placing.{at-index}
use Rattle.qv_game_turns.proofs.Moving.{later-places, link-within, on-if, own-block, own-enters, owner-entered}
use Rattle.qv_game_turns.proofs.Owning.{later-term, later-words}
use Rattle.qv_game_state.proofs.Asking.{level-span, span-within}
use Rattle.qv_game_turns.proofs.moves.own.Goals as goal

pub index-span-requires : goal.index-span-requires
index-span-requires c =
    let h = c.requires.2 in
    let low = span-within c.args.store.now c.requires.0 c.requires.1 c.args.game.now c.args.level c.args.meter.now h.game h.low h.high in
    omega (arith, low, c.args.game.now.spans.ok.0)

pub put_later-requires-clause-link : goal.put_later-requires-clause-link
put_later-requires-clause-link c =
    let h = c.requires.2 in
    let trees = c.args.store.now in
    let g = c.args.game.now in
    let span = at-index g.spans.items (c.args.level - 1) c.index-span.result.now (span-within trees c.requires.0 c.requires.1 g c.args.level c.args.meter.now h.game h.low h.high) c.index-span.ensures in
    let f = level-span trees c.requires.0 c.requires.1 g c.args.level c.args.meter.now c.index-span.result.now h.game h.low span in
    link-within trees c.requires.0 g.entries c.args.level f.0.owner c.args.link _ (h.led f.0 f.1.at)

pub take-requires-clause-formula : goal.take-requires-clause-formula
take-requires-clause-formula c =
    let h = c.requires.2 in
    let trees = c.args.store.now in
    let g = c.args.game.now in
    let span = at-index g.spans.items (c.args.level - 1) c.index-span.result.now (span-within trees c.requires.0 c.requires.1 g c.args.level c.args.meter.now h.game h.low h.high) c.index-span.ensures in
    let later = tree_at c.put_later.new.store c.in_ok-later.later in
    let f = later-places trees c.args.problem.now c.requires.0 c.requires.1 g c.args.level c.args.link c.args.point.now c.args.meter.now c.index-span.result.now later h span c.in_ok-later.ensures.later in
    later-term c.requires.0 c.args.level later f.0

pub take-requires-clause-block : goal.take-requires-clause-block
take-requires-clause-block c =
    let h = c.requires.2 in
    let trees = c.args.store.now in
    let g = c.args.game.now in
    let span = at-index g.spans.items (c.args.level - 1) c.index-span.result.now (span-within trees c.requires.0 c.requires.1 g c.args.level c.args.meter.now h.game h.low h.high) c.index-span.ensures in
    own-block trees c.args.problem.now c.requires.0 c.requires.1 g c.args.level c.args.link c.args.point.now c.args.meter.now c.index-span.result.now h span

pub take-requires-clause-places : goal.take-requires-clause-places
take-requires-clause-places c =
    let h = c.requires.2 in
    let trees = c.args.store.now in
    let g = c.args.game.now in
    let span = at-index g.spans.items (c.args.level - 1) c.index-span.result.now (span-within trees c.requires.0 c.requires.1 g c.args.level c.args.meter.now h.game h.low h.high) c.index-span.ensures in
    let later = tree_at c.put_later.new.store c.in_ok-later.later in
    let f = later-places trees c.args.problem.now c.requires.0 c.requires.1 g c.args.level c.args.link c.args.point.now c.args.meter.now c.index-span.result.now later h span c.in_ok-later.ensures.later in
    later-words c.requires.0 c.args.level later c.args.point.now h.sorts f.0

pub take-requires-clause-holds : goal.take-requires-clause-holds
take-requires-clause-holds c =
    let h = c.requires.2 in
    let trees = c.args.store.now in
    let g = c.args.game.now in
    let span = at-index g.spans.items (c.args.level - 1) c.index-span.result.now (span-within trees c.requires.0 c.requires.1 g c.args.level c.args.meter.now h.game h.low h.high) c.index-span.ensures in
    let later = tree_at c.put_later.new.store c.in_ok-later.later in
    (later-places trees c.args.problem.now c.requires.0 c.requires.1 g c.args.level c.args.link c.args.point.now c.args.meter.now c.index-span.result.now later h span c.in_ok-later.ensures.later).1

pub slice_bounds-from_slice-end : goal.slice_bounds-from_slice-end
slice_bounds-from_slice-end c =
    let h = c.requires.2 in
    let trees = c.args.store.now in
    let g = c.args.game.now in
    let span = at-index g.spans.items (c.args.level - 1) c.index-span.result.now (span-within trees c.requires.0 c.requires.1 g c.args.level c.args.meter.now h.game h.low h.high) c.index-span.ensures in
    sym (take-length c.args.point.now c.index-span.result.now.first (own-block trees c.args.problem.now c.requires.0 c.requires.1 g c.args.level c.args.link c.args.point.now c.args.meter.now c.index-span.result.now h span))

pub enter-requires : goal.enter-requires
enter-requires c =
    let h = c.requires.2 in
    let trees = c.args.store.now in
    let g = c.args.game.now in
    let s = c.index-span.result.now in
    let span = at-index g.spans.items (c.args.level - 1) s (span-within trees c.requires.0 c.requires.1 g c.args.level c.args.meter.now h.game h.low h.high) c.index-span.ensures in
    let grows = grows-more trees c.put_later.new.store c.take.new.store c.put_later.ensures.grows c.take.ensures.grows in (
      c.requires.0,
      c.requires.1,
      own-enters trees c.take.new.store c.args.problem.now c.requires.0 c.requires.1 g c.args.level c.args.link c.args.point.now c.in_ok-from_slice.field-0.items c.args.meter.now s
          (tree_at c.put_later.new.store c.in_ok-later.later) c.in_ok-taken.taken.region c.in_ok-taken.taken.terms.items c.in_ok-links_to.field-0.items h span grows c.in_ok-later.ensures.later
          c.in_ok-taken.ensures.chosen c.in_ok-taken.ensures.region c.in_ok-taken.ensures.terms c.in_ok-taken.ensures.below c.in_ok-links_to.ensures c.in_ok-from_slice.ensures.items,
    )

pub returns-clause-entered : goal.returns-clause-entered
returns-clause-entered c =
    let trees = c.args.store.now in
    let g = c.args.game.now in
    let s = c.index-span.result.now in
    let grows = grows-more trees c.put_later.new.store c.take.new.store c.put_later.ensures.grows c.take.ensures.grows in
    on-if c.enter.result (λ given number p limit h b at.
    let span = at-index g.spans.items (c.args.level - 1) s (span-within trees p limit g c.args.level c.args.meter.now h.game h.low h.high) c.index-span.ensures in
    let may = own-enters trees c.take.new.store c.args.problem.now p limit g c.args.level c.args.link c.args.point.now c.in_ok-from_slice.field-0.items c.args.meter.now s
    (tree_at c.put_later.new.store c.in_ok-later.later) c.in_ok-taken.taken.region c.in_ok-taken.taken.terms.items c.in_ok-links_to.field-0.items h span grows c.in_ok-later.ensures.later
    c.in_ok-taken.ensures.chosen c.in_ok-taken.ensures.region c.in_ok-taken.ensures.terms c.in_ok-taken.ensures.below c.in_ok-links_to.ensures c.in_ok-from_slice.ensures.items in
    owner-entered trees c.enter.new.store c.args.problem.now p limit g c.enter.new.self c.args.level c.args.link c.args.point.now c.args.meter.now c.enter.new.meter s b h span at (given p limit may)) c.enter.ensures.entered

pub returns-in_err-taken-clause-grows : goal.returns-in_err-taken-clause-grows
returns-in_err-taken-clause-grows c = grows-more c.args.store.now c.put_later.new.store c.take.new.store c.put_later.ensures.grows c.take.ensures.grows

pub returns-in_err-from_slice-clause-grows : goal.returns-in_err-from_slice-clause-grows
returns-in_err-from_slice-clause-grows c = grows-more c.args.store.now c.put_later.new.store c.take.new.store c.put_later.ensures.grows c.take.ensures.grows

pub returns-in_err-links_to-clause-grows : goal.returns-in_err-links_to-clause-grows
returns-in_err-links_to-clause-grows c = grows-more c.args.store.now c.put_later.new.store c.take.new.store c.put_later.ensures.grows c.take.ensures.grows

pub returns-clause-grows : goal.returns-clause-grows
returns-clause-grows c = grows-more c.args.store.now c.take.new.store c.enter.new.store (grows-more c.args.store.now c.put_later.new.store c.take.new.store c.put_later.ensures.grows c.take.ensures.grows) c.enter.ensures.grows
