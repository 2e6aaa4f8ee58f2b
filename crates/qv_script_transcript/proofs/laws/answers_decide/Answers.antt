use Rattle.qv_script_transcript.proofs.Deciding.{answers-decide}
use Rattle.qv_script_transcript.proofs.laws.answers_decide.Goals as goal

pub returns : goal.returns
returns _ = answers-decide
