use Rattle.qv_game_regions.proofs.Fixings.{fixing-is_of_entries}
use Rattle.qv_game_regions.proofs.laws.fixing_is_of_entries.Goals as goal

pub returns : goal.returns
returns _ p point runs sorts there = fixing-is_of_entries p point runs sorts there
