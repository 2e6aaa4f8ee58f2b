use Rattle.qv_game_entry_laws.proofs.Fixed.{fixed-value}
use Rattle.qv_game_entry_laws.proofs.laws.fixed_bits_give_their_value.Goals as goal

pub returns : goal.returns
returns _ = fixed-value
