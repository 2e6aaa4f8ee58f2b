use Rattle.qv_qdimacs.proofs.TextLemmas.{text-once}
use Rattle.qv_qdimacs.proofs.laws.prefixes_are_once.Goals as goal

pub returns : goal.returns
returns c = text-once
