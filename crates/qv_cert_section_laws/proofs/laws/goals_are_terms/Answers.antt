use Rattle.qv_cert_section_laws.proofs.SkolemByOneMore.{goals-are_terms}
use Rattle.qv_cert_section_laws.proofs.laws.goals_are_terms.Goals as goal

pub returns : goal.returns
returns _ = goals-are_terms
