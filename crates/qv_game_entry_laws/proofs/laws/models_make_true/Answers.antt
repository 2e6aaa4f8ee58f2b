use Rattle.qv_game_entry_laws.proofs.Models.{models-make_true}
use Rattle.qv_game_entry_laws.proofs.laws.models_make_true.Goals as goal

pub returns : goal.returns
returns _ = models-make_true
