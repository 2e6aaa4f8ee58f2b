use Rattle.qv_meter.proofs.Growing.{query_list-append}
use Rattle.qv_meter.proofs.laws.queries_grow.Goals as goal

pub returns : goal.returns
returns _ = query_list-append
