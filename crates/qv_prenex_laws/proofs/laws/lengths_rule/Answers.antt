use Rattle.qv_prenex_laws.proofs.FormLengths.{lengths-rule}
use Rattle.qv_prenex_laws.proofs.laws.lengths_rule.Goals as goal

pub returns : goal.returns
returns _ = lengths-rule
