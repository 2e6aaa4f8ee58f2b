use Rattle.qv_cert_section_laws.proofs.ByOneMore.{expansion-by-one-more}
use Rattle.qv_cert_section_laws.proofs.laws.expansion_by_one_more.Goals as goal

pub returns : goal.returns
returns _ = expansion-by-one-more
