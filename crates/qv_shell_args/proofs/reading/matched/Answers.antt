use Rattle.std.proofs.Common.{◌∙◌}
use Rattle.qv_shell_args.proofs.Matching.{taken, refused}
use Rattle.qv_shell_args.proofs.reading.matched.Goals as goal

pub returns-in-Ok : goal.returns-in-Ok
returns-in-Ok g c = taken _ _ _ c.requires (c.in-Ok.ensures.kinds c.requires) c.in-Ok.ensures.matches

pub returns : goal.returns
returns g c = refused _ _ c.in-Err.error (c.in-Err.ensures.kinds c.requires) (λ e. c.in_default.not-OutOfMemory (c.kind.ensures ∙ e))
