use Rattle.qv_game_laws.proofs.Each.{each-entry}
use Rattle.qv_game_laws.proofs.laws.each_entry.Goals as goal

pub returns : goal.returns
returns _ = each-entry
