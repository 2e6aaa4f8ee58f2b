use Rattle.qv_script_defs.proofs.Commanding.{states-are_lawful}
use Rattle.qv_script_defs.proofs.laws.states_are_lawful.Goals as goal

pub returns : goal.returns
returns _ = states-are_lawful
