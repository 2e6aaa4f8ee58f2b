use Rattle.qv_shell_answer.proofs.Printing.{printed-sections-stand}
use Rattle.qv_shell_answer.proofs.laws.printed_sections_stand.Goals as goal

pub returns : goal.returns
returns _ = printed-sections-stand
