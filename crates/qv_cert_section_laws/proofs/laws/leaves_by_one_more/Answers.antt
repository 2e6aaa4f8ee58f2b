use Rattle.qv_cert_section_laws.proofs.ByOneMore.{leaves-by-one-more}
use Rattle.qv_cert_section_laws.proofs.laws.leaves_by_one_more.Goals as goal

pub returns : goal.returns
returns _ = leaves-by-one-more
