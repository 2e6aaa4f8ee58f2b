use Rattle.qv_script_stack.proofs.Holding.{held-popped}
use Rattle.qv_script_stack.proofs.laws.closed_levels_are_held.Goals as goal

pub returns : goal.returns
returns c = λ trees held s n le h. held-popped trees held s n le h
