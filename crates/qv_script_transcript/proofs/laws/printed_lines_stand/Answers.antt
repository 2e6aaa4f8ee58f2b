use Rattle.qv_script_transcript.proofs.PrintedLines.{printed-lines-stand}
use Rattle.qv_script_transcript.proofs.laws.printed_lines_stand.Goals as goal

pub returns : goal.returns
returns _ = printed-lines-stand
