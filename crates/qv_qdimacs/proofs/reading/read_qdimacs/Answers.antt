use Rattle.qv_qdimacs.proofs.TextLemmas.{answer-once}
use Rattle.qv_qdimacs.proofs.reading.read_qdimacs.Goals as goal

pub returns-clause-once : goal.returns-clause-once
returns-clause-once g c = answer-once c.deref.result.now c.parse.result c.parse.ensures
