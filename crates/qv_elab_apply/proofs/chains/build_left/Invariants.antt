-- the chain of the first arguments is there
use Rattle.qv_elab_apply.proofs.Chaining.{IsLeftOf}
use Rattle.qv_elab_apply.proofs.chains.build_left.Given as goal

abbrev pub invariant-others : goal.invariant-others
invariant-others l = IsLeftOf l.fn.store l.store l.op l.fn.first l.others l.other-index l.chain
