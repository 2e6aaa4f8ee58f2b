use Rattle.qv_script_stack.proofs.Holding.{held-emptied}
use Rattle.qv_script_stack.proofs.laws.emptied_scripts_are_held.Goals as goal

pub returns : goal.returns
returns c = λ trees held s h. held-emptied trees held s h
