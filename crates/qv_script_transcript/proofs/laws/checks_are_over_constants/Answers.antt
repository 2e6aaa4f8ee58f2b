use Rattle.qv_script_transcript.proofs.Checking.{checks-are_over_constants}
use Rattle.qv_script_transcript.proofs.laws.checks_are_over_constants.Goals as goal

pub returns : goal.returns
returns _ = checks-are_over_constants
