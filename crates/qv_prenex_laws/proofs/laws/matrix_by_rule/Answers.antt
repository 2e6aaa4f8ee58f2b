use Rattle.qv_prenex_laws.proofs.Rules.{matrix-by-rule}
use Rattle.qv_prenex_laws.proofs.laws.matrix_by_rule.Goals as goal

pub returns : goal.returns
returns _ = matrix-by-rule
