use Rattle.qv_cert_section_laws.proofs.SkolemSound.{skolem-terms_win}
use Rattle.qv_cert_section_laws.proofs.laws.skolem_terms_win.Goals as goal

pub returns : goal.returns
returns _ = skolem-terms_win
