use Rattle.qv_script_stack.proofs.Asserting.{held-sort}
use Rattle.qv_script_stack.proofs.laws.sorts_are_held.Goals as goal

pub returns : goal.returns
returns _ = held-sort
