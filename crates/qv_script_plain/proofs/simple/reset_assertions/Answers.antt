use Rattle.std.proofs.Common.{refl, sym, subst}
use Rattle.qv_script_defs.specs.State.{emptied}
use Rattle.qv_script_defs.specs.Moves.{Quiet}
use Rattle.qv_script_stack.specs.Held.{Held, IsScriptIn}
use Rattle.qv_script_stack.proofs.Holding.{held-emptied}
use Rattle.qv_script_plain.proofs.simple.reset_assertions.Goals as goal

pub returns : goal.returns
returns c = λ trees s h.
    (emptied s, Quiet, refl, subst (λ (k : Held). IsScriptIn trees k (emptied s)) (sym c.empty.ensures) (held-emptied trees c.args.stack.now s h), refl)
