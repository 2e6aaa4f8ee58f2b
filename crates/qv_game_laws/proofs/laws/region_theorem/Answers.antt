use Rattle.qv_game_laws.proofs.RegionTheorem.{region-theorem}
use Rattle.qv_game_laws.proofs.laws.region_theorem.Goals as goal

pub returns : goal.returns
returns _ = region-theorem
