use Rattle.qv_cnf.proofs.RatSoundness.{rup_is_rat}
use Rattle.qv_cnf.proofs.laws.rup_is_rat.Goals as goal

pub returns : goal.returns
returns c = rup_is_rat
