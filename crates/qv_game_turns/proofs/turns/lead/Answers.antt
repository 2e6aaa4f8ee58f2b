use Rattle.std.proofs.Common.{◌+◌, ◌-◌, ℕ, Option, List, sym, ◌∙◌, subst, arith}
use Rattle.std.specs.List.{All}
use Rattle.qv_words.specs.declared.word.Word.{Word}
use Rattle.qv_words.specs.Word.{values_of}
use Rattle.qv_store.specs.Problems.{quantifier_of}
use Rattle.qv_entries.specs.Rows.{entries_in, regions_of}
use Rattle.qv_entries.specs.Holding.{HoldsAt, IsAskable, IsFirstWith}
use Rattle.qv_game_lanes.proofs.Placing.{at-index}
use Rattle.qv_game_state.proofs.Asking.{if-ok, span-within}
use Rattle.qv_game_turns.proofs.Leading.{IsAnsweredAt, leads-askable, leads-held, leads-last, leads-on}
use Rattle.qv_game_turns.proofs.turns.lead.Goals as goal

pub index-requires : goal.index-requires
index-requires c =
    let h = c.requires.2.playing in
    let low = span-within c.args.store.now c.requires.0 c.requires.1 c.args.game.now c.args.spot.level c.args.meter.now h.game h.spot.low h.spot.high in
    omega (arith, low, c.args.game.now.spans.ok.0)

pub win-requires : goal.win-requires
win-requires c =
    let p = c.requires.0 in
    let limit = c.requires.1 in
    let trees = c.args.store.now in
    let g = c.args.game.now in
    let m = c.args.meter.now in
    let spot = c.args.spot in
    let may = c.requires.2 in
    let s = c.index.result.now in
    let span = at-index g.spans.items (spot.level - 1) s (span-within trees p limit g spot.level m may.playing.game may.playing.spot.low may.playing.spot.high) c.index.ensures in
    let h : IsAnsweredAt trees c.args.problem.now p limit g spot m s c.args.values.now c.lengthen.new.point.items = record { may = may; leading = c.requires.3; span = span; longer_is = c.in_ok-lengthen.ensures } in
    (p, limit, leads-last trees c.args.problem.now p limit g spot m s c.args.values.now c.lengthen.new.point.items h (c.if-level-len.true ∙ c.len.ensures ∙ g.spans.ok.0))

pub returns-then-level-len-clause-turn : goal.returns-then-level-len-clause-turn
returns-then-level-len-clause-turn c =
    let trees = c.args.store.now in
    let g = c.args.game.now in
    let m = c.args.meter.now in
    let spot = c.args.spot in
    let s = c.index.result.now in
    if-ok c.win.result (λ turn given p limit may leading.
    let span = at-index g.spans.items (spot.level - 1) s (span-within trees p limit g spot.level m may.playing.game may.playing.spot.low may.playing.spot.high) c.index.ensures in
    let h : IsAnsweredAt trees c.args.problem.now p limit g spot m s c.args.values.now c.lengthen.new.point.items = record { may = may; leading = leading; span = span; longer_is = c.in_ok-lengthen.ensures } in
    given p limit (leads-last trees c.args.problem.now p limit g spot m s c.args.values.now c.lengthen.new.point.items h (c.if-level-len.true ∙ c.len.ensures ∙ g.spans.ok.0))) c.win.ensures.turn

pub holds_at-requires : goal.holds_at-requires
holds_at-requires c =
    let p = c.requires.0 in
    let limit = c.requires.1 in
    let trees = c.args.store.now in
    let g = c.args.game.now in
    let m = c.args.meter.now in
    let spot = c.args.spot in
    let may = c.requires.2 in
    let s = c.index.result.now in
    let span = at-index g.spans.items (spot.level - 1) s (span-within trees p limit g spot.level m may.playing.game may.playing.spot.low may.playing.spot.high) c.index.ensures in
    let h : IsAnsweredAt trees c.args.problem.now p limit g spot m s c.args.values.now c.lengthen.new.point.items = record { may = may; leading = c.requires.3; span = span; longer_is = c.in_ok-lengthen.ensures } in
    subst (λ (ws : List Word). All (IsAskable trees ws) (regions_of (spot.level + 1) (quantifier_of s.owner) g.entries)) (sym c.deref.ensures.value)
    (leads-askable trees c.args.problem.now p limit g spot m s c.args.values.now c.lengthen.new.point.items h)

pub win-requires-in-Some : goal.win-requires-in-Some
win-requires-in-Some c =
    let p = c.requires.0 in
    let limit = c.requires.1 in
    let trees = c.args.store.now in
    let g = c.args.game.now in
    let m = c.args.meter.now in
    let spot = c.args.spot in
    let may = c.requires.2 in
    let s = c.index.result.now in
    let longer = c.lengthen.new.point.items in
    let span = at-index g.spans.items (spot.level - 1) s (span-within trees p limit g spot.level m may.playing.game may.playing.spot.low may.playing.spot.high) c.index.ensures in
    let h : IsAnsweredAt trees c.args.problem.now p limit g spot m s c.args.values.now longer = record { may = may; leading = c.requires.3; span = span; longer_is = c.in_ok-lengthen.ensures } in
    let first = subst (λ (ws : List Word). IsFirstWith (HoldsAt (spot.level + 1) (quantifier_of s.owner) (values_of ws)) (entries_in trees g.entries) c.in_ok-number.field-0) c.deref.ensures.value c.in_ok-number.ensures in
    let holds = subst (λ (o : Option ℕ). IsFirstWith (HoldsAt (spot.level + 1) (quantifier_of s.owner) (values_of longer)) (entries_in trees g.entries) o) c.in-Some.is first in
    (p, limit, leads-held trees c.args.problem.now p limit g spot m s c.args.values.now longer c.in-Some.number h (λ e. c.if-level-len.false (e ∙ sym (c.len.ensures ∙ g.spans.ok.0))) holds.0)

pub returns-in-Some-clause-turn : goal.returns-in-Some-clause-turn
returns-in-Some-clause-turn c =
    let trees = c.args.store.now in
    let g = c.args.game.now in
    let m = c.args.meter.now in
    let spot = c.args.spot in
    let s = c.index.result.now in
    let longer = c.lengthen.new.point.items in
    let first = subst (λ (ws : List Word). IsFirstWith (HoldsAt (spot.level + 1) (quantifier_of s.owner) (values_of ws)) (entries_in trees g.entries) c.in_ok-number.field-0) c.deref.ensures.value c.in_ok-number.ensures in
    let holds = subst (λ (o : Option ℕ). IsFirstWith (HoldsAt (spot.level + 1) (quantifier_of s.owner) (values_of longer)) (entries_in trees g.entries) o) c.in-Some.is first in
    if-ok c.win-in-Some.result (λ turn given p limit may leading.
    let span = at-index g.spans.items (spot.level - 1) s (span-within trees p limit g spot.level m may.playing.game may.playing.spot.low may.playing.spot.high) c.index.ensures in
    let h : IsAnsweredAt trees c.args.problem.now p limit g spot m s c.args.values.now longer = record { may = may; leading = leading; span = span; longer_is = c.in_ok-lengthen.ensures } in
    given p limit (leads-held trees c.args.problem.now p limit g spot m s c.args.values.now longer c.in-Some.number h (λ e. c.if-level-len.false (e ∙ sym (c.len.ensures ∙ g.spans.ok.0))) holds.0)) c.win-in-Some.ensures.turn

pub returns-in-None-clause-turn : goal.returns-in-None-clause-turn
returns-in-None-clause-turn c p limit may leading =
    let trees = c.args.store.now in
    let g = c.args.game.now in
    let m = c.args.meter.now in
    let spot = c.args.spot in
    let s = c.index.result.now in
    let longer = c.lengthen.new.point.items in
    let first = subst (λ (ws : List Word). IsFirstWith (HoldsAt (spot.level + 1) (quantifier_of s.owner) (values_of ws)) (entries_in trees g.entries) c.in_ok-number.field-0) c.deref.ensures.value c.in_ok-number.ensures in
    let none = subst (λ (o : Option ℕ). IsFirstWith (HoldsAt (spot.level + 1) (quantifier_of s.owner) (values_of longer)) (entries_in trees g.entries) o) c.in-None.is first in
    let span = at-index g.spans.items (spot.level - 1) s (span-within trees p limit g spot.level m may.playing.game may.playing.spot.low may.playing.spot.high) c.index.ensures in
    let h : IsAnsweredAt trees c.args.problem.now p limit g spot m s c.args.values.now longer = record { may = may; leading = leading; span = span; longer_is = c.in_ok-lengthen.ensures } in
    leads-on trees c.args.problem.now p limit g spot m s c.args.values.now longer h (λ e. c.if-level-len.false (e ∙ sym (c.len.ensures ∙ g.spans.ok.0))) none
