use Rattle.qv_script_stack.proofs.Holding.{held-constant}
use Rattle.qv_script_stack.proofs.laws.constants_are_held.Goals as goal

pub returns : goal.returns
returns c = λ trees held s own l h. held-constant trees held s own l h
