use Rattle.qv_script_stack.proofs.Holding.{held-pushed}
use Rattle.qv_script_stack.proofs.laws.opened_levels_are_held.Goals as goal

pub returns : goal.returns
returns c = λ trees held s n h. held-pushed trees held s n h
