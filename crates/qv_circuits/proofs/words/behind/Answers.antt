use Rattle.qv_circuits.proofs.MadeLists.{behind-lits}
use Rattle.qv_circuits.proofs.words.behind.Goals as goal

pub returns : goal.returns
returns c = rw c.min.ensures (behind-lits c.args.count c.args.bits.now)
