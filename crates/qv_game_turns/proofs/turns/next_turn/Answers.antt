use Rattle.std.proofs.Common.{List, sym, subst}
use Rattle.qv_words.specs.declared.word.Word.{Word}
use Rattle.qv_cnf.specs.Literal.{Literal}
use Rattle.qv_game_lanes.specs.declared.asking.Answer.{Answer}
use Rattle.qv_game_state.specs.Asking.{IsAnswered}
use Rattle.qv_game_turns.specs.Turns.{AreFailing, AreLeading}
use Rattle.qv_game_turns.proofs.Asked.{answered-now, asked-turn}
use Rattle.qv_game_state.proofs.Asking.{if-ok}
use Rattle.qv_game_turns.proofs.turns.next_turn.Goals as goal

pub lead-requires : goal.lead-requires
lead-requires c =
    let p = c.requires.0 in
    let limit = c.requires.1 in
    let trees = c.args.store.now in
    let g = c.args.game.now in
    let next = c.ask.new.self in
    let m = c.args.meter.now in
    let spot = c.args.spot in
    let point = c.deref.result.now in
    let posed = c.args.problem.now in
    let may = c.requires.2 in
    let answered = answered-now trees posed p limit g next spot point m c.in_ok-values.field-0 c.deref.ensures.value may (c.in_ok-values.ensures.answer p limit) in
    let leading = subst (λ (a : Answer). IsAnswered trees p next spot.level spot.point.items a) c.in-Values.is answered in (
      p,
      limit,
      asked-turn trees posed p limit g next spot point m c.ask.new.meter c.deref.ensures.value may (c.ask.ensures.playing p limit),
      subst (λ (vs : List Word). AreLeading trees p next spot vs) (sym c.deref-in-Values.ensures.value) leading,
    )

pub lose-requires : goal.lose-requires
lose-requires c =
    let p = c.requires.0 in
    let limit = c.requires.1 in
    let trees = c.args.store.now in
    let g = c.args.game.now in
    let next = c.ask.new.self in
    let m = c.args.meter.now in
    let spot = c.args.spot in
    let point = c.deref.result.now in
    let posed = c.args.problem.now in
    let may = c.requires.2 in
    let answered = answered-now trees posed p limit g next spot point m c.in_ok-values.field-0 c.deref.ensures.value may (c.in_ok-values.ensures.answer p limit) in
    let failing = subst (λ (a : Answer). IsAnswered trees p next spot.level spot.point.items a) c.in-Core.is answered in (
      p,
      limit,
      asked-turn trees posed p limit g next spot point m c.ask.new.meter c.deref.ensures.value may (c.ask.ensures.playing p limit),
      subst (λ (ls : List Literal). AreFailing trees p next spot ls) (sym c.deref-in-Core.ensures.value) failing,
    )

pub returns-in-Values-clause-turn : goal.returns-in-Values-clause-turn
returns-in-Values-clause-turn c =
    let trees = c.args.store.now in
    let g = c.args.game.now in
    let next = c.ask.new.self in
    let m = c.args.meter.now in
    let spot = c.args.spot in
    let point = c.deref.result.now in
    let posed = c.args.problem.now in
    if-ok c.lead.result (λ turn given p limit may.
    let answered = answered-now trees posed p limit g next spot point m c.in_ok-values.field-0 c.deref.ensures.value may (c.in_ok-values.ensures.answer p limit) in
    let leading = subst (λ (a : Answer). IsAnswered trees p next spot.level spot.point.items a) c.in-Values.is answered in
    given p limit (asked-turn trees posed p limit g next spot point m c.ask.new.meter c.deref.ensures.value may (c.ask.ensures.playing p limit))
    (subst (λ (vs : List Word). AreLeading trees p next spot vs) (sym c.deref-in-Values.ensures.value) leading)) c.lead.ensures.turn

pub returns-in-Core-clause-turn : goal.returns-in-Core-clause-turn
returns-in-Core-clause-turn c =
    let trees = c.args.store.now in
    let g = c.args.game.now in
    let next = c.ask.new.self in
    let m = c.args.meter.now in
    let spot = c.args.spot in
    let point = c.deref.result.now in
    let posed = c.args.problem.now in
    if-ok c.lose.result (λ turn given p limit may.
    let answered = answered-now trees posed p limit g next spot point m c.in_ok-values.field-0 c.deref.ensures.value may (c.in_ok-values.ensures.answer p limit) in
    let failing = subst (λ (a : Answer). IsAnswered trees p next spot.level spot.point.items a) c.in-Core.is answered in
    given p limit (asked-turn trees posed p limit g next spot point m c.ask.new.meter c.deref.ensures.value may (c.ask.ensures.playing p limit))
    (subst (λ (ls : List Literal). AreFailing trees p next spot ls) (sym c.deref-in-Core.ensures.value) failing)) c.lose.ensures.turn
