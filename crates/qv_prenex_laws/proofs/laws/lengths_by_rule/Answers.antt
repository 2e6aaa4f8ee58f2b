use Rattle.qv_prenex_laws.proofs.Rules.{lengths-by-rule}
use Rattle.qv_prenex_laws.proofs.laws.lengths_by_rule.Goals as goal

pub returns : goal.returns
returns _ = lengths-by-rule
