use Rattle.qv_prenex_laws.proofs.RuleBlocks.{parts-shrink}
use Rattle.qv_prenex_laws.proofs.laws.parts_shrink.Goals as goal

pub returns : goal.returns
returns _ = parts-shrink
