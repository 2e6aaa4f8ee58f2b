use Rattle.qv_check_clauses.proofs.Refuted.{clauses-are-refuted}
use Rattle.qv_check_clauses.proofs.laws.clauses_are_refuted.Goals as goal

pub returns : goal.returns
returns _ = clauses-are-refuted
