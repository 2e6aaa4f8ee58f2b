use Rattle.std.proofs.Common.{refl, ap, ◌∙◌}
use Rattle.qv_cnf.specs.Derivation.{additions}
use Rattle.qv_game_state.proofs.starting.new_query.Goals as goal

pub returns : goal.returns
returns c trees shared =
    let is = c.in_ok-new.ensures.lane trees shared in
    record {
      winner_is = refl;
      list = c.new.ensures.items;
      lane = is;
      learnt = is.learnt ∙ ap additions c.in_ok-new.ensures.steps;
      variables = c.in_ok-new.ensures.limit;
    }
