use Rattle.qv_script_defs.proofs.Commanding.{checks-are_lawful}
use Rattle.qv_script_defs.proofs.laws.checks_are_lawful.Goals as goal

pub returns : goal.returns
returns _ = checks-are_lawful
