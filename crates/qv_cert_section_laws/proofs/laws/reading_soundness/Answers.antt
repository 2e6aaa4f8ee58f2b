use Rattle.qv_cert_section_laws.proofs.Reading.{reading-soundness}
use Rattle.qv_cert_section_laws.proofs.laws.reading_soundness.Goals as goal

pub returns : goal.returns
returns _ = reading-soundness
