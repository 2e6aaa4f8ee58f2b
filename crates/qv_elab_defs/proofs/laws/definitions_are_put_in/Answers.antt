use Rattle.qv_elab_defs.proofs.Uses.{definitions-are_put_in}
use Rattle.qv_elab_defs.proofs.laws.definitions_are_put_in.Goals as goal

pub returns : goal.returns
returns _ = definitions-are_put_in
