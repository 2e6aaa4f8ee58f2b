use Rattle.qv_elab_apply.proofs.Chaining.{left-rank, left-more}
use Rattle.qv_elab_apply.proofs.chains.build_left.Goals as goal

pub put_application-requires-clause-rank : goal.put_application-requires-clause-rank
put_application-requires-clause-rank c =
    left-rank c.args.store.now c.others.store c.args.op c.args.first c.args.others.now c.others.other-index c.others.chain c.other-item.result c.others.invariant
    c.requires.others c.others-test.true c.other-item.is c.requires.ranks

pub others-preserved : goal.others-preserved
others-preserved c =
    left-more c.args.store.now c.others.store c.args.op c.args.first c.args.others.now c.others.other-index c.others.chain c.other-item.result c.others.invariant
    c.requires.others c.others-test.true c.other-item.is c.put_application.new.store c.in_ok-chain.chain c.requires.ranks c.put_application.ensures.grows c.in_ok-chain.ensures.id
