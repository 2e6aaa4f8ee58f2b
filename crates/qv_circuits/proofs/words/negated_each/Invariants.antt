use Rattle.std.proofs.Common.{◌≡◌, take}
use Rattle.qv_words.specs.Routine.{negs}
use Rattle.qv_circuits.specs.Adding.{lits_of}
use Rattle.qv_circuits.proofs.words.negated_each.Given as goal

abbrev pub invariant-literals : goal.invariant-literals
invariant-literals l = lits_of l.negated.items ≡ negs (lits_of (take l.lit-index l.lits))
