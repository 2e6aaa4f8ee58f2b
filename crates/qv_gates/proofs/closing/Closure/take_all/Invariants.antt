use Rattle.qv_gates.specs.Closing.{GoesOn}
use Rattle.qv_gates.proofs.closing.Closure.take_all.Given as goal

-- the base stays, and steps came
abbrev pub invariant-steps : goal.invariant-steps
invariant-steps l = GoesOn l.initial.self l.self
