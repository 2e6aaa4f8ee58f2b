use Rattle.qv_qdimacs.proofs.Kept.{kept}
use Rattle.qv_qdimacs.proofs.laws.translation_keeps_meaning.Goals as goal

pub returns : goal.returns
returns c = kept
