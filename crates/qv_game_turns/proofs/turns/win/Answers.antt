use Rattle.std.proofs.Common.{◌-◌, List, length, map, sym, ap, subst, arith}
use Rattle.qv_game_lanes.proofs.Placing.{at-index}
use Rattle.qv_words.specs.declared.word.Word.{Word}
use Rattle.qv_game_state.specs.declared.spans.Span.{Span as Kept}
use Rattle.qv_game_turns.specs.Moves.{MayOwn}
use Rattle.qv_game_state.specs.Spans.{span_of}
use Rattle.qv_game_turns.specs.Turns.{IsUp}
use Rattle.qv_game_turns.proofs.Turned.{closer, entered-longer, win-turn}
use Rattle.qv_game_state.proofs.Asking.{level-span, span-within}
use Rattle.qv_game_turns.proofs.turns.win.Goals as goal

pub index-requires : goal.index-requires
index-requires c =
    let h = c.requires.2.own in
    let low = span-within c.args.store.now c.requires.0 c.requires.1 c.args.game.now c.args.level c.args.meter.now h.game h.low h.high in
    omega (arith, low, c.args.game.now.spans.ok.0)

pub own-requires : goal.own-requires
own-requires c =
    (c.requires.0, c.requires.1, subst (λ (ws : List Word). MayOwn c.args.store.now c.args.problem.now c.requires.0 c.requires.1 c.args.game.now c.args.level c.args.link ws c.args.meter.now) (sym c.deref.ensures.value) c.requires.2.own)

pub up-requires-clause-high : goal.up-requires-clause-high
up-requires-clause-high c =
    let p = c.requires.0 in
    let limit = c.requires.1 in
    let trees = c.args.store.now in
    let g = c.args.game.now in
    let m = c.args.meter.now in
    let h = c.requires.2.own in
    let s = c.index.result.now in
    let span = at-index g.spans.items (c.args.level - 1) s (span-within trees p limit g c.args.level m h.game h.low h.high) c.index.ensures in
    let f = level-span trees p limit g c.args.level m s h.game h.low span in
    let may = subst (λ (ws : List Word). MayOwn trees c.args.problem.now p limit g c.args.level c.args.link ws m) (sym c.deref.ensures.value) h in
    let entered = c.in_ok-own.ensures.entered p limit may f.0 f.1.at in
    let low = span-within c.own.new.store p limit c.own.new.game c.args.level c.own.new.meter entered.game h.low h.high in
    let many = ap length c.deref-2.ensures.value in
    let one = h.low in
    omega (arith, low, many, one)

pub returns-clause-turn : goal.returns-clause-turn
returns-clause-turn c p limit h =
    let trees = c.args.store.now in
    let g = c.args.game.now in
    let m = c.args.meter.now in
    let s = c.index.result.now in
    let own = h.own in
    let span = at-index g.spans.items (c.args.level - 1) s (span-within trees p limit g c.args.level m own.game own.low own.high) c.index.ensures in
    let may = subst (λ (ws : List Word). MayOwn trees c.args.problem.now p limit g c.args.level c.args.link ws m) (sym c.deref.ensures.value) own in
    let up = subst (λ (ss : List Kept). IsUp (map span_of ss) c.args.level s.owner c.args.point.items c.up.result) c.deref-2.ensures.value c.up.ensures in
    win-turn trees c.own.new.store c.args.problem.now p limit g c.own.new.game c.args.level c.args.link c.args.point.items m c.own.new.meter s c.up.result h span c.own.ensures.grows (c.in_ok-own.ensures.entered p limit may) up

pub returns-clause-closer : goal.returns-clause-closer
returns-clause-closer c from =
    let p = c.requires.0 in
    let limit = c.requires.1 in
    let trees = c.args.store.now in
    let g = c.args.game.now in
    let m = c.args.meter.now in
    let h = c.requires.2.own in
    let s = c.index.result.now in
    let span = at-index g.spans.items (c.args.level - 1) s (span-within trees p limit g c.args.level m h.game h.low h.high) c.index.ensures in
    let f = level-span trees p limit g c.args.level m s h.game h.low span in
    let may = subst (λ (ws : List Word). MayOwn trees c.args.problem.now p limit g c.args.level c.args.link ws m) (sym c.deref.ensures.value) h in
    let entered = c.in_ok-own.ensures.entered p limit may f.0 f.1.at in
    closer (length g.entries) from (length c.own.new.game.entries) c.up.result
    (entered-longer c.own.new.store p limit g c.own.new.game c.args.level f.0.owner c.own.new.meter entered)
