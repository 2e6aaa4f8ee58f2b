use Rattle.qv_shell_qdimacs.proofs.Accepted.{solved-are-accepted}
use Rattle.qv_shell_qdimacs.proofs.laws.solved_files_are_accepted.Goals as goal

pub returns : goal.returns
returns c = solved-are-accepted
