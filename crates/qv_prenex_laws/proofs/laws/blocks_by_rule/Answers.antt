use Rattle.qv_prenex_laws.proofs.RuleBlocks.{blocks-by-rule}
use Rattle.qv_prenex_laws.proofs.laws.blocks_by_rule.Goals as goal

pub returns : goal.returns
returns _ = blocks-by-rule
