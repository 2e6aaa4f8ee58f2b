use Rattle.qv_cert_section_laws.proofs.Reading.{reading-by-line}
use Rattle.qv_cert_section_laws.proofs.laws.reading_by_line.Goals as goal

pub returns : goal.returns
returns _ = reading-by-line
