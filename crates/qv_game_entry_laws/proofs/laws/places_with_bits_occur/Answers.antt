use Rattle.qv_game_entry_laws.proofs.Occurring.{places-occur}
use Rattle.qv_game_entry_laws.proofs.laws.places_with_bits_occur.Goals as goal

pub returns : goal.returns
returns _ = places-occur
