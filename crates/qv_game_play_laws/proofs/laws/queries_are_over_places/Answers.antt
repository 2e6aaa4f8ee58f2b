use Rattle.qv_game_play_laws.proofs.Queries.{queries-are_over_places}
use Rattle.qv_game_play_laws.proofs.laws.queries_are_over_places.Goals as goal

pub returns : goal.returns
returns _ = queries-are_over_places
