use Rattle.std.proofs.Common.{arith}
use Rattle.qv_circuits.specs.Adding.{lit_of}
use Rattle.qv_circuits.proofs.Turns.{disjunction-folds, disjunction-of-none}
use Rattle.qv_circuits.proofs.encoder.Encoder.any.Goals as goal

pub returns-in-empty : goal.returns-in-empty
returns-in-empty c = rw c.no.ensures (disjunction-of-none c.args.lits.now c.in-empty.len_below)

pub returns-in-len1-up : goal.returns-in-len1-up
returns-in-len1-up c = disjunction-folds lit_of c.fold.result _ _ c.args.lits.now c.first-item.result (omega arith) c.first-item.is c.fold.ensures
