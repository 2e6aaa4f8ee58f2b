use Rattle.std.proofs.Common.{List, sym, ap, ◌∙◌}
use Rattle.qv_store.specs.Problems.{quantifier_of}
use Rattle.qv_game_state.specs.declared.query.Query.{Query}
use Rattle.qv_game.specs.Queries.{has_only}
use Rattle.qv_game.proofs.Only.{only-none, only-there}
use Rattle.qv_game.proofs.playing.refuting_lane.Goals as goal

pub returns-then-has_only : goal.returns-then-has_only
returns-then-has_only c =
    let queries = c.args.queries.now.items in
    let winner = quantifier_of c.args.winner in
    only-there queries winner c.pop_lane.result (sym (ap (λ (qs : List Query). has_only qs winner) c.deref.ensures.value) ∙ sym c.has_only.ensures ∙ c.if-has_only.true) c.pop_lane.ensures

pub returns-else-has_only : goal.returns-else-has_only
returns-else-has_only c =
    let queries = c.args.queries.now.items in
    let winner = quantifier_of c.args.winner in
    only-none queries winner (sym (ap (λ (qs : List Query). has_only qs winner) c.deref.ensures.value) ∙ sym c.has_only.ensures ∙ c.if-has_only.false)
