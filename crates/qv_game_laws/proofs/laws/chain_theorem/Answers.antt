use Rattle.qv_game_laws.proofs.ChainTheorem.{chain-theorem}
use Rattle.qv_game_laws.proofs.laws.chain_theorem.Goals as goal

pub returns : goal.returns
returns _ = chain-theorem
