use Rattle.qv_cnf.proofs.RatSoundness.{rat_keeps_models}
use Rattle.qv_cnf.proofs.laws.rat_keeps_models.Goals as goal

pub returns : goal.returns
returns c = rat_keeps_models
