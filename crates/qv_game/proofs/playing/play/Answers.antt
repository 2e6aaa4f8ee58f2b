use Rattle.std.proofs.Common.{length, sym, subst}
use Rattle.std.specs.List.{All}
use Rattle.qv_words.specs.GameLaws.{HasWon}
use Rattle.qv_store.specs.Problems.{problem_in, quantifier_of}
use Rattle.qv_entries.specs.Rows.{entries_in, IsRowIn}
use Rattle.qv_meter.specs.Played.{IsPlayed}
use Rattle.qv_game_state.specs.Starting.{HasCharged}
use Rattle.qv_game.specs.declared.playing.Won.{Won}
use Rattle.qv_game.proofs.playing.play.Goals as goal

pub returns-clause-played : goal.returns-clause-played
returns-clause-played c = subst (λ (w : Won). IsPlayed (problem_in c.args.store.now c.args.problem.now) (entries_in c.play_noting.new.store w.entries)) (sym c.won_of.ensures) c.in_ok-played.ensures.played

pub returns-clause-won : goal.returns-clause-won
returns-clause-won c = subst (λ (w : Won). HasWon (problem_in c.args.store.now c.args.problem.now) (quantifier_of w.winner) (entries_in c.play_noting.new.store w.entries)) (sym c.won_of.ensures) c.in_ok-played.ensures.won

pub returns-clause-rows : goal.returns-clause-rows
returns-clause-rows c = subst (λ (w : Won). All (IsRowIn c.play_noting.new.store) w.entries) (sym c.won_of.ensures) c.in_ok-played.ensures.rows

pub returns-clause-charged : goal.returns-clause-charged
returns-clause-charged c = subst (λ (w : Won). HasCharged (problem_in c.args.store.now c.args.problem.now) (length w.entries) c.play_noting.new.meter) (sym c.won_of.ensures) c.in_ok-played.ensures.charged
