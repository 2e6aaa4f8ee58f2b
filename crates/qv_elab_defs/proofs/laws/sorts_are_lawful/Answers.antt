use Rattle.qv_elab_defs.proofs.LawfulSorts.{sorts-are-lawful}
use Rattle.qv_elab_defs.proofs.laws.sorts_are_lawful.Goals as goal

pub returns : goal.returns
returns _ = sorts-are-lawful
