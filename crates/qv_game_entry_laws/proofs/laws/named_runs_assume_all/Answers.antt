use Rattle.qv_game_entry_laws.proofs.Assuming.{named-runs_assume_all}
use Rattle.qv_game_entry_laws.proofs.laws.named_runs_assume_all.Goals as goal

pub returns : goal.returns
returns _ = named-runs_assume_all
