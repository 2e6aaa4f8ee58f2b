use Rattle.qv_prenex_laws.proofs.MatrixRule.{conjunction-matrix}
use Rattle.qv_prenex_laws.proofs.laws.conjunction_matrix.Goals as goal

pub returns : goal.returns
returns _ = conjunction-matrix
