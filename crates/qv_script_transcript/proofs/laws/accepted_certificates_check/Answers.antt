use Rattle.qv_script_transcript.proofs.Accepting.{accepted-certificates-check}
use Rattle.qv_script_transcript.proofs.laws.accepted_certificates_check.Goals as goal

pub returns : goal.returns
returns _ = accepted-certificates-check
