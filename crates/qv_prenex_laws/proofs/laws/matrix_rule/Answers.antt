use Rattle.qv_prenex_laws.proofs.MatrixRule.{matrix-rule}
use Rattle.qv_prenex_laws.proofs.laws.matrix_rule.Goals as goal

pub returns : goal.returns
returns _ = matrix-rule
