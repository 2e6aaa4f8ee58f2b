use Rattle.std.proofs.Common.{subst, sym}
use Rattle.qv_script_defs.specs.State.{opening}
use Rattle.qv_script_stack.specs.Held.{Held, IsScriptIn}
use Rattle.qv_script_stack.proofs.Holding.{held-nothing}
use Rattle.qv_script_transcript.proofs.Continuing.{current-opening}
use Rattle.qv_shell_command.proofs.moves.Course.new.Goals as goal

pub returns-clause-stands : goal.returns-clause-stands
returns-clause-stands c = record {
  script = subst (λ (held : Held). IsScriptIn c.new.result held opening) (sym c.new-2.ensures) (held-nothing c.new.result);
  current = current-opening;
}
