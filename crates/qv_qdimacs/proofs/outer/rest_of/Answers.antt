use Rattle.qv_qdimacs.proofs.Gathered.{rest-slice}
use Rattle.qv_qdimacs.proofs.outer.rest_of.Goals as goal

pub returns : goal.returns
returns c = rest-slice c.args.prefix.now c.leading.result c.leading.ensures.rest
