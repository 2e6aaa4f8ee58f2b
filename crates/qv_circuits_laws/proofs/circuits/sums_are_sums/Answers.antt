use Rattle.std.proofs.Common.{◌+◌, length}
use Rattle.qv_words.specs.Op.{truth}
use Rattle.qv_words.specs.Gate.{lit_value}
use Rattle.qv_words.specs.Routine.{add}
use Rattle.qv_circuits_laws.specs.CircuitLaws.{number_of}
use Rattle.qv_circuits_laws.proofs.Adding.{add-computes, sum-parts}
use Rattle.qv_circuits_laws.proofs.circuits.sums_are_sums.Goals as goal

pub returns : goal.returns
returns _ v next a b c same h =
    let total = number_of v a + number_of v b + truth (lit_value v c) in
    sum-parts v (length a) total (add a b c next).result ((add-computes a b c same).holds h)
