use Rattle.qv_script_stack.proofs.Asserting.{held-assertion}
use Rattle.qv_script_stack.proofs.laws.assertions_are_held.Goals as goal

pub returns : goal.returns
returns c = λ trees held s id t there h. held-assertion trees held s id t there h
