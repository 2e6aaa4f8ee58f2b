use Rattle.qv_cert_section_laws.proofs.SkolemSound.{first-terms_win}
use Rattle.qv_cert_section_laws.proofs.laws.first_terms_win.Goals as goal

pub returns : goal.returns
returns _ = first-terms_win
