use Rattle.qv_qdimacs.proofs.Truthful.{truth-kept}
use Rattle.qv_qdimacs.proofs.laws.translation_keeps_truth.Goals as goal

pub returns : goal.returns
returns c = truth-kept
