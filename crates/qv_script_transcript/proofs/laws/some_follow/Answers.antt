use Rattle.qv_script_transcript.proofs.Continuing.{some-follow}
use Rattle.qv_script_transcript.proofs.laws.some_follow.Goals as goal

pub returns : goal.returns
returns _ = some-follow
