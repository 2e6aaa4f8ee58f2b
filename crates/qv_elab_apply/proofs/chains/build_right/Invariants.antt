-- the chain of the last arguments is there
use Rattle.qv_elab_apply.proofs.Chaining.{IsRightOf}
use Rattle.qv_elab_apply.proofs.chains.build_right.Given as goal

abbrev pub invariant-ids : goal.invariant-ids
invariant-ids l = IsRightOf l.fn.store l.store l.op l.ids l.left l.chain

abbrev pub decreases-ids : goal.decreases-ids
decreases-ids l = l.left
