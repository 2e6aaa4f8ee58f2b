use Rattle.qv_words.specs.Clauses.{first_blasting, cnf}
use Rattle.qv_circuits_laws.proofs.Listing.{first-true, true-first, formulas-true, true-formulas}
use Rattle.qv_circuits_laws.proofs.clauses.models_evaluate_formulas.Goals as goal

pub returns : goal.returns
unfolding cnf
returns _ v formulas = (
  λ h. let parts = true-formulas v first_blasting formulas h in (true-first v parts.0, parts.1),
  λ h e. formulas-true v first_blasting formulas (first-true v h) e,
)
