use Rattle.qv_prenex_laws.proofs.MatrixRule.{problem-matrix}
use Rattle.qv_prenex_laws.proofs.laws.problem_matrix.Goals as goal

pub returns : goal.returns
returns _ = problem-matrix
