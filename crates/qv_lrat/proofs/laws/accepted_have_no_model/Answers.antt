use Rattle.qv_lrat.proofs.Exact.{accepted-have_no_model}
use Rattle.qv_lrat.proofs.laws.accepted_have_no_model.Goals as goal

pub returns : goal.returns
returns c = accepted-have_no_model
