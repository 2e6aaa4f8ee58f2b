use Rattle.qv_cert.proofs.Bridge.{clauses-mean-the-same}
use Rattle.qv_cert.proofs.laws.clauses_mean_the_same.Goals as goal

pub returns : goal.returns
returns c = clauses-mean-the-same
