use Rattle.qv_cert_section_laws.proofs.ExpansionSound.{expansion-soundness}
use Rattle.qv_cert_section_laws.proofs.laws.expansion_soundness.Goals as goal

pub returns : goal.returns
returns _ = expansion-soundness
