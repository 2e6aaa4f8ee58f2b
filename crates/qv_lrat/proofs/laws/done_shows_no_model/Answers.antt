use Rattle.qv_lrat.proofs.Exact.{done-shows_no_model}
use Rattle.qv_lrat.proofs.laws.done_shows_no_model.Goals as goal

pub returns : goal.returns
returns c = done-shows_no_model
