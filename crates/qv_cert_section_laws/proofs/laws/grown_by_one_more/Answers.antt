use Rattle.qv_cert_section_laws.proofs.ByOneMore.{grown-by-one-more}
use Rattle.qv_cert_section_laws.proofs.laws.grown_by_one_more.Goals as goal

pub returns : goal.returns
returns _ = grown-by-one-more
