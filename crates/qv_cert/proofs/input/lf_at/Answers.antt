use Rattle.qv_cert.proofs.LineEnds.{first-lf}
use Rattle.qv_cert.proofs.input.lf_at.Goals as goal

pub returns : goal.returns
returns c = first-lf c.args.bytes.now c.memchr.result c.memchr.ensures
