use Rattle.qv_cert_section_laws.proofs.ByOneMore.{reading-by-paths}
use Rattle.qv_cert_section_laws.proofs.laws.reading_by_paths.Goals as goal

pub returns : goal.returns
returns _ = reading-by-paths
