use Rattle.qv_script_transcript.proofs.Accepting.{lines-are-their-text}
use Rattle.qv_script_transcript.proofs.laws.lines_are_their_text.Goals as goal

pub returns : goal.returns
returns _ = lines-are-their-text
