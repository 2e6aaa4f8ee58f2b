use Rattle.qv_cert_section_laws.proofs.Opened.{path-by-one-more}
use Rattle.qv_cert_section_laws.proofs.laws.path_by_one_more.Goals as goal

pub returns : goal.returns
returns _ = path-by-one-more
