use Rattle.std.proofs.Common.{◌≡◌, ◌+◌, ◌-◌, arith}
use Rattle.qv_elab_apply.proofs.Chaining.{right-rank, right-more}
use Rattle.qv_elab_apply.proofs.chains.build_right.Goals as goal

pub put_application-requires-clause-rank : goal.put_application-requires-clause-rank
put_application-requires-clause-rank c =
    let before : c.ids.left - 1 + 1 ≡ c.ids.left = omega (arith, c.ids-test.true) in
    right-rank c.args.store.now c.ids.store c.args.op c.args.ids.now c.ids.left (c.ids.left - 1) c.ids.chain c.index-ids-left-in-ids.result c.ids.invariant
    c.requires.ids before c.index-ids-left-in-ids.is c.requires.ranks

pub ids-preserved : goal.ids-preserved
ids-preserved c =
    let before : c.ids.left - 1 + 1 ≡ c.ids.left = omega (arith, c.ids-test.true) in
    right-more c.args.store.now c.ids.store c.args.op c.args.ids.now c.ids.left (c.ids.left - 1) c.ids.chain c.index-ids-left-in-ids.result c.ids.invariant
    c.requires.ids before c.index-ids-left-in-ids.is c.put_application.new.store c.in_ok-chain.chain c.requires.ranks c.put_application.ensures.grows c.in_ok-chain.ensures.id
