-- the formulas so far
use Rattle.qv_cert_formulas.proofs.Blasted.{IsBlasting}
use Rattle.qv_cert_formulas.proofs.refuting.blast.Given as goal

abbrev pub invariant-formulas : goal.invariant-formulas
invariant-formulas l = IsBlasting l.store l.formulas l.formula-index l.blaster
