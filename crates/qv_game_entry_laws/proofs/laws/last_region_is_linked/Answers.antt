use Rattle.qv_game_entry_laws.proofs.Linking.{last-region_is_linked}
use Rattle.qv_game_entry_laws.proofs.laws.last_region_is_linked.Goals as goal

pub returns : goal.returns
returns _ = last-region_is_linked
