use Rattle.qv_cert_nodes.specs.Lists.{listed_in}
use Rattle.qv_cert_nodes.proofs.Kept.{no-rank}
use Rattle.qv_cert_nodes.proofs.faults.has_rank.Goals as goal

pub returns-in-len4-up : goal.returns-in-len4-up
returns-in-len4-up c = no-rank c.args.op (listed_in c.args.store.now c.args.listed.now) c.args.kids.now c.in-len4-up.len_at_least
