use Rattle.qv_cert_section_laws.proofs.LawfulLines.{leaves-are_terms}
use Rattle.qv_cert_section_laws.proofs.laws.leaves_are_terms.Goals as goal

pub returns : goal.returns
returns _ = leaves-are_terms
