use Rattle.qv_script_stack.proofs.Holding.{held-nothing}
use Rattle.qv_script_stack.proofs.laws.nothing_is_opening.Goals as goal

pub returns : goal.returns
returns c = λ trees. held-nothing trees
