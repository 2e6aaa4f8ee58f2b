use Rattle.qv_blast.proofs.Staying.{formulas-stay}
use Rattle.qv_blast.proofs.laws.formulas_stay.Goals as goal

pub returns : goal.returns
returns _ = formulas-stay
