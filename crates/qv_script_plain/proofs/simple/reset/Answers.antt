use Rattle.std.proofs.Common.{refl, sym, subst}
use Rattle.qv_script_defs.specs.State.{opening}
use Rattle.qv_script_defs.specs.Moves.{Quiet}
use Rattle.qv_script_stack.specs.Held.{Held, IsScriptIn}
use Rattle.qv_script_stack.proofs.Holding.{held-nothing}
use Rattle.qv_script_plain.proofs.simple.reset.Goals as goal

pub returns : goal.returns
returns c = λ trees s h.
    (opening, Quiet, refl, subst (λ (k : Held). IsScriptIn trees k opening) (sym c.restart.ensures) (held-nothing trees), refl)
