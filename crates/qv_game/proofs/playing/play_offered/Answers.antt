use Rattle.std.proofs.Common.{refl}
use Rattle.qv_store.specs.Problems.{problem_in}
use Rattle.qv_game_state.proofs.Opening.{places-none}
use Rattle.qv_game.proofs.Offered.{won-played}
use Rattle.qv_game.proofs.playing.play_offered.Goals as goal

pub returns-clause-won : goal.returns-clause-won
returns-clause-won c =
    won-played c.win_at.new.store (problem_in c.args.store.now c.args.problem.now) c.args.offered.now _ c.in_ok-entries.entries c.win_at.new.meter c.requires.wins
    (λ e. c.requires.some (places-none c.args.problem.now.prefix.items e)) c.in_ok-entries.ensures.won refl refl refl
