use Rattle.qv_script_transcript.proofs.Accepting.{certificates-are-accepted}
use Rattle.qv_script_transcript.proofs.laws.certificates_are_accepted.Goals as goal

pub returns : goal.returns
returns _ = certificates-are-accepted
