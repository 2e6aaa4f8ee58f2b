use Rattle.qv_qdimacs.proofs.TextLemmas.{some-is}
use Rattle.qv_qdimacs.proofs.clauses.has_clause.Goals as goal

pub returns : goal.returns
returns c = some-is c.len.result c.args.clauses.now c.len.ensures
