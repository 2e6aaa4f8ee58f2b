use Rattle.qv_store.proofs.Replacement.{grows-more}
use Rattle.qv_elab_apply.proofs.Conjoined.{said-more}
use Rattle.qv_elab_apply.proofs.pairs.build_all_said.Goals as goal

pub pairs-preserved : goal.pairs-preserved
pairs-preserved c =
    let more = said-more c.args.store.now c.pairs.store c.build_said.new.store c.pairs.invariant.grows c.build_said.ensures.grows c.args.same c.args.pairs.now c.requires.below
    c.pairs.ids.items c.pairs.invariant.below c.pairs.pair-index c.pairs.invariant.ids c.pair-item.result c.pairs-test.true c.pair-item.is
    c.in_ok-id.id c.push.new.self.items c.in_ok-id.ensures.id c.in_ok-push.ensures.items in
    record { grows = grows-more c.args.store.now c.pairs.store c.build_said.new.store c.pairs.invariant.grows c.build_said.ensures.grows; below = more.0; ids = more.1 }

pub returns-in_err-id-clause-grows : goal.returns-in_err-id-clause-grows
returns-in_err-id-clause-grows c = grows-more c.args.store.now c.pairs.store c.build_said.new.store c.pairs.invariant.grows c.build_said.ensures.grows

pub returns-in_err-push-clause-grows : goal.returns-in_err-push-clause-grows
returns-in_err-push-clause-grows c = grows-more c.args.store.now c.pairs.store c.build_said.new.store c.pairs.invariant.grows c.build_said.ensures.grows
