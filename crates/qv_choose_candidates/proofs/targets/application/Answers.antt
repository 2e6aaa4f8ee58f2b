use Rattle.qv_terms.proofs.Rows.{tree-App}
use Rattle.qv_choose_candidates.proofs.targets.application.Goals as goal

pub returns : goal.returns
returns c = tree-App c.args.op c.args.kids
