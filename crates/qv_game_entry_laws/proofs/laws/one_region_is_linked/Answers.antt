use Rattle.qv_game_entry_laws.proofs.Linking.{one-region_is_linked}
use Rattle.qv_game_entry_laws.proofs.laws.one_region_is_linked.Goals as goal

pub returns : goal.returns
returns _ = one-region_is_linked
