use Rattle.qv_game_entry_laws.proofs.Leading.{models-lead_on}
use Rattle.qv_game_entry_laws.proofs.laws.models_lead_on.Goals as goal

pub returns : goal.returns
returns _ = models-lead_on
