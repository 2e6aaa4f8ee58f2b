use Rattle.qv_script_defs.proofs.Commanding.{values-are_lawful}
use Rattle.qv_script_defs.proofs.laws.values_are_lawful.Goals as goal

pub returns : goal.returns
returns _ = values-are_lawful
