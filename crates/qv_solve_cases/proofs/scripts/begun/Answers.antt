use Rattle.std.proofs.Common.{sym, subst}
use Rattle.qv_script_defs.specs.State.{opening}
use Rattle.qv_script_stack.specs.Held.{Held}
use Rattle.qv_script_stack.proofs.Holding.{held-nothing}
use Rattle.qv_solve_cases.specs.Scripts.{IsHeldIn}
use Rattle.qv_solve_cases.proofs.scripts.begun.Goals as goal

pub returns : goal.returns
returns c = subst (λ (held : Held). IsHeldIn c.args.store.now held) (sym c.new.ensures) (opening, held-nothing c.args.store.now)
