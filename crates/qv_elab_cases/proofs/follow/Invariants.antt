use Rattle.qv_elab_cases.specs.Sessions.{IsKept}
use Rattle.qv_elab_cases.proofs.follow.Given as goal

abbrev pub invariant-commands : goal.invariant-commands
invariant-commands l = IsKept l.session.store l.session.scope
