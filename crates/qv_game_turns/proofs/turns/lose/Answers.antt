use Rattle.std.proofs.Common.{List, length, map, sym, ap, subst, arith}
use Rattle.qv_words.specs.declared.word.Word.{Word}
use Rattle.qv_store.specs.Problems.{quantifier_of}
use Rattle.qv_game_turns.specs.Moves.{MayForce}
use Rattle.qv_game_state.specs.declared.spans.Span.{Span as Kept}
use Rattle.qv_game_state.specs.Spans.{span_of}
use Rattle.qv_game_turns.specs.Turns.{IsUp}
use Rattle.qv_game_turns.proofs.Turned.{closer, entered-longer, lose-turn}
use Rattle.qv_game_state.proofs.Asking.{if-ok, span-within}
use Rattle.qv_game_turns.proofs.Losing.{closer-through, lost, lost-wins, lost-within, may-force}
use Rattle.qv_game_turns.proofs.turns.lose.Goals as goal

pub index-requires : goal.index-requires
index-requires c =
    let h = c.requires.2.playing in
    let low = span-within c.args.store.now c.requires.0 c.requires.1 c.args.game.now c.args.spot.level c.args.meter.now h.game h.spot.low h.spot.high in
    omega (arith, low, c.args.game.now.spans.ok.0)

pub force-requires : goal.force-requires
force-requires c =
    let p = c.requires.0 in
    let limit = c.requires.1 in (
      p,
      limit,
      subst (λ (ws : List Word). MayForce c.args.store.now c.args.problem.now p limit c.args.game.now c.args.spot.level ws c.args.core.now c.args.meter.now) (sym c.deref.ensures.value)
          (may-force c.args.store.now c.args.problem.now p limit c.args.game.now c.args.spot c.args.core.now c.args.meter.now c.requires.2 c.requires.3),
    )

pub win-requires : goal.win-requires
win-requires c =
    let p = c.requires.0 in
    let limit = c.requires.1 in
    let forced = lost c.args.store.now c.force.new.store c.args.problem.now p limit c.args.game.now c.force.new.game c.args.spot c.args.meter.now c.force.new.meter c.index.result.now c.opponent-winner.result c.in_ok-number.number c.args.core.now c.deref.result.now
    c.requires.2 c.requires.3 c.deref.ensures.value c.index.ensures c.opponent-winner.ensures (c.in_ok-number.ensures.entered p limit) in (
      p,
      limit,
      lost-wins c.args.store.now c.force.new.store c.args.problem.now p limit c.args.game.now c.force.new.game c.args.spot c.args.meter.now c.force.new.meter c.index.result.now c.opponent-winner.result c.in_ok-number.number
          c.requires.2 c.force.ensures.grows forced c.if-level-gt1.true c.index.ensures c.opponent-winner.ensures,
    )

pub returns-then-level-gt1-clause-turn : goal.returns-then-level-gt1-clause-turn
returns-then-level-gt1-clause-turn c =
    if-ok c.win.result (λ turn given p limit may failing.
    let forced = lost c.args.store.now c.force.new.store c.args.problem.now p limit c.args.game.now c.force.new.game c.args.spot c.args.meter.now c.force.new.meter c.index.result.now c.opponent-winner.result c.in_ok-number.number c.args.core.now c.deref.result.now
    may failing c.deref.ensures.value c.index.ensures c.opponent-winner.ensures (c.in_ok-number.ensures.entered p limit) in
    given p limit (lost-wins c.args.store.now c.force.new.store c.args.problem.now p limit c.args.game.now c.force.new.game c.args.spot c.args.meter.now c.force.new.meter c.index.result.now c.opponent-winner.result c.in_ok-number.number
    may c.force.ensures.grows forced c.if-level-gt1.true c.index.ensures c.opponent-winner.ensures)) c.win.ensures.turn

pub returns-then-level-gt1-clause-closer : goal.returns-then-level-gt1-clause-closer
returns-then-level-gt1-clause-closer c =
    let p = c.requires.0 in
    let limit = c.requires.1 in
    let forced = lost c.args.store.now c.force.new.store c.args.problem.now p limit c.args.game.now c.force.new.game c.args.spot c.args.meter.now c.force.new.meter c.index.result.now c.opponent-winner.result c.in_ok-number.number c.args.core.now c.deref.result.now
    c.requires.2 c.requires.3 c.deref.ensures.value c.index.ensures c.opponent-winner.ensures (c.in_ok-number.ensures.entered p limit) in
    let more = entered-longer c.force.new.store p limit c.args.game.now c.force.new.game c.args.spot.level (quantifier_of c.opponent-winner.result) c.force.new.meter forced.entered in
    if-ok c.win.result (λ turn given. closer-through (length c.args.game.now.entries) (length c.force.new.game.entries) c.args.spot.level c.args.spot.level (length c.win.new.game.entries) turn more (given c.args.spot.level)) c.win.ensures.closer

pub up-requires-clause-high : goal.up-requires-clause-high
up-requires-clause-high c =
    let p = c.requires.0 in
    let limit = c.requires.1 in
    let forced = lost c.args.store.now c.force.new.store c.args.problem.now p limit c.args.game.now c.force.new.game c.args.spot c.args.meter.now c.force.new.meter c.index.result.now c.opponent-winner.result c.in_ok-number.number c.args.core.now c.deref.result.now
    c.requires.2 c.requires.3 c.deref.ensures.value c.index.ensures c.opponent-winner.ensures (c.in_ok-number.ensures.entered p limit) in
    let low = lost-within c.args.store.now c.force.new.store c.args.problem.now p limit c.args.game.now c.force.new.game c.args.spot c.args.meter.now c.force.new.meter (quantifier_of c.opponent-winner.result) c.in_ok-number.number c.requires.2 forced in
    let many = ap length c.deref-2.ensures.value in
    let one = c.requires.2.playing.spot.low in
    omega (arith, low, many, one)

pub returns-clause-turn : goal.returns-clause-turn
returns-clause-turn c p limit may failing =
    let forced = lost c.args.store.now c.force.new.store c.args.problem.now p limit c.args.game.now c.force.new.game c.args.spot c.args.meter.now c.force.new.meter c.index.result.now c.opponent-winner.result c.in_ok-number.number c.args.core.now c.deref.result.now
    may failing c.deref.ensures.value c.index.ensures c.opponent-winner.ensures (c.in_ok-number.ensures.entered p limit) in
    let up = subst (λ (ss : List Kept). IsUp (map span_of ss) c.args.spot.level c.opponent-winner.result c.args.spot.point.items c.up.result) c.deref-2.ensures.value c.up.ensures in
    lose-turn c.args.store.now c.force.new.store p limit c.args.game.now c.force.new.game c.args.spot.level c.in_ok-number.number c.opponent-winner.result c.args.spot.point.items c.args.meter.now c.force.new.meter c.up.result (let low = may.playing.spot.low in let most = c.if-level-gt1.false in omega (arith, low, most)) may.playing c.force.ensures.grows forced up

pub returns-clause-closer : goal.returns-clause-closer
returns-clause-closer c =
    let p = c.requires.0 in
    let limit = c.requires.1 in
    let forced = lost c.args.store.now c.force.new.store c.args.problem.now p limit c.args.game.now c.force.new.game c.args.spot c.args.meter.now c.force.new.meter c.index.result.now c.opponent-winner.result c.in_ok-number.number c.args.core.now c.deref.result.now
    c.requires.2 c.requires.3 c.deref.ensures.value c.index.ensures c.opponent-winner.ensures (c.in_ok-number.ensures.entered p limit) in
    closer (length c.args.game.now.entries) c.args.spot.level (length c.force.new.game.entries) c.up.result
    (entered-longer c.force.new.store p limit c.args.game.now c.force.new.game c.args.spot.level (quantifier_of c.opponent-winner.result) c.force.new.meter forced.entered)
