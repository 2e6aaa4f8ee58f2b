use Rattle.std.proofs.Common.{Some, ap, subst, sym}
use Rattle.qv_script_defs.specs.State.{answered}
use Rattle.qv_script_stack.specs.Held.{Held, IsScriptIn, answer_of}
use Rattle.qv_script_stack.proofs.Holding.{held-answered}
use Rattle.qv_script_stack.proofs.stack.Stack.answered.Goals as goal

pub returns-clause-state : goal.returns-clause-state
returns-clause-state c = λ trees s sorts h.
    subst (λ (k : Held). IsScriptIn trees k (answered (answer_of c.args.last) c.args.counts s)) (sym (ap (λ (k : Held). record k { last = Some c.args.last; counts = Some c.args.counts }) c.self.view_is)) (held-answered trees c.args.self.now s c.args.last c.args.counts sorts h)
