use Rattle.qv_cert_section_laws.proofs.SkolemByOneMore.{skolem-by-one-more}
use Rattle.qv_cert_section_laws.proofs.laws.skolem_by_one_more.Goals as goal

pub returns : goal.returns
returns _ = skolem-by-one-more
