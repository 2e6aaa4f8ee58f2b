use Rattle.qv_check_clauses.proofs.Counted.{greatest-step}
use Rattle.qv_check_clauses.proofs.dimacs.greatest_in.Goals as goal

pub literals-preserved : goal.literals-preserved
literals-preserved c =
    greatest-step c.args.lits.now c.literals.lit-index c.lit-item.result c.literals.greatest c.variable.result c.greater-greatest.result c.literals-test.true c.lit-item.is c.literals.invariant c.variable.ensures.value c.greater-greatest.ensures
