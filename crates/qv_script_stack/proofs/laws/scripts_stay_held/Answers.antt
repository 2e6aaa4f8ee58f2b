use Rattle.qv_script_stack.proofs.Asserting.{script-grows}
use Rattle.qv_script_stack.proofs.laws.scripts_stay_held.Goals as goal

pub returns : goal.returns
returns c = λ old new held s g h. script-grows old new g held s h
