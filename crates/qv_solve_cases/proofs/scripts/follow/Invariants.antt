use Rattle.qv_solve_cases.specs.Scripts.{IsHeldIn}
use Rattle.qv_solve_cases.proofs.scripts.follow.Given as goal

abbrev pub invariant-commands : goal.invariant-commands
invariant-commands l = IsHeldIn l.store l.script
