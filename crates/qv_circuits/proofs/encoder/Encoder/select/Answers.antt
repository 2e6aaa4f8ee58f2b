use Rattle.qv_circuits.specs.Adding.{lits_of}
use Rattle.qv_circuits.proofs.Running.{encodes-same}
use Rattle.qv_circuits.proofs.Turns.{sel-each}
use Rattle.qv_circuits.proofs.encoder.Encoder.select.Goals as goal

pub returns : goal.returns
returns c = encodes-same (λ v. lits_of v.items) c.each.result _ _ (sel-each _ _ _) c.each.ensures
