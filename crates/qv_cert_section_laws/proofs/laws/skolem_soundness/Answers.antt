use Rattle.qv_cert_section_laws.proofs.SkolemSound.{skolem-soundness}
use Rattle.qv_cert_section_laws.proofs.laws.skolem_soundness.Goals as goal

pub returns : goal.returns
returns _ = skolem-soundness
