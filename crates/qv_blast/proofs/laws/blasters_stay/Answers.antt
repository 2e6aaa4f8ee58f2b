use Rattle.qv_blast.proofs.Staying.{blaster-stays, stands-stays}
use Rattle.qv_blast.proofs.laws.blasters_stay.Goals as goal

pub returns : goal.returns
returns _ old new b g h = (blaster-stays old new b g h, stands-stays old new b g h)
