use Rattle.qv_shell_qdimacs.proofs.Accepted.{answers-are-true}
use Rattle.qv_shell_qdimacs.proofs.laws.file_answers_are_true.Goals as goal

pub returns : goal.returns
returns c = answers-are-true
