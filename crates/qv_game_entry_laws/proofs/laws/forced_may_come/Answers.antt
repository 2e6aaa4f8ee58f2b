use Rattle.qv_game_entry_laws.proofs.Forced.{forced-may-come}
use Rattle.qv_game_entry_laws.proofs.laws.forced_may_come.Goals as goal

pub returns : goal.returns
returns _ = forced-may-come
