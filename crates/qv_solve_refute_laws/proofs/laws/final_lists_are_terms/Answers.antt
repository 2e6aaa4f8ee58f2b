use Rattle.qv_solve_refute_laws.proofs.FinalTerms.{final-terms}
use Rattle.qv_solve_refute_laws.proofs.laws.final_lists_are_terms.Goals as goal

pub returns : goal.returns
returns _ = final-terms
