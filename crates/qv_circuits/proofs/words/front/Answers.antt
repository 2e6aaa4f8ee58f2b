use Rattle.qv_circuits.proofs.MadeLists.{front-lits}
use Rattle.qv_circuits.proofs.words.front.Goals as goal

pub returns : goal.returns
returns c = rw c.min.ensures (front-lits c.args.count c.args.bits.now)
