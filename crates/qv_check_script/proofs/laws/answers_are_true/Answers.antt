use Rattle.qv_check_script.proofs.Truthful.{answers-are_true}
use Rattle.qv_check_script.proofs.laws.answers_are_true.Goals as goal

pub returns : goal.returns
returns _ = answers-are_true
