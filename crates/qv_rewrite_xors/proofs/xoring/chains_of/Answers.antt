use Rattle.std.proofs.Common.{[], ◌∷◌, length, ap, arith, length-append}
use Rattle.qv_store.specs.Nodes.{tree_at}
use Rattle.qv_store.proofs.Replacement.{grows-more}
use Rattle.qv_rewrite_sums.proofs.Built.{grows-itself}
use Rattle.qv_rewrite_sums.proofs.Found.{next-low}
use Rattle.qv_rewrite_xors.proofs.Found.{next-of, chains-more, chains-none}
use Rattle.qv_rewrite_xors.proofs.xoring.chains_of.Goals as goal

pub terms-init : goal.terms-init
terms-init c = record {
  grows = grows-itself c.args.store.now;
  chains = chains-none c.args.store.now (tree_at c.args.store.now) c.args.walk.now c.new-chains.result.items c.new-chains.ensures.items;
  many = ap length c.new-chains.ensures.items;
}

pub next_chain-requires : goal.next_chain-requires
next_chain-requires c = record {
  id = next-low c.args.store.now c.terms.store c.ids-id-items.result.now c.args.walk.now c.terms.id-index c.id-item.result c.terms.invariant.grows c.ids-id-items.ensures c.terms-test.true c.id-item.is c.requires.walk;
  next = next-of c.args.store.now c.terms.store c.ids-id-items.result.now c.args.walk.now c.terms.chains.items c.deref.result.now c.terms.id-index c.id-item.result
      c.terms.invariant.grows c.ids-id-items.ensures c.deref.ensures.value c.terms.invariant.many c.terms-test.true c.id-item.is c.requires.walk c.terms.invariant.chains;
}

pub returns-in_err-next-clause-grows : goal.returns-in_err-next-clause-grows
returns-in_err-next-clause-grows c = grows-more c.args.store.now c.terms.store c.next_chain.new.store c.terms.invariant.grows c.next_chain.ensures.grows

pub returns-in_err-push-clause-grows : goal.returns-in_err-push-clause-grows
returns-in_err-push-clause-grows c = grows-more c.args.store.now c.terms.store c.next_chain.new.store c.terms.invariant.grows c.next_chain.ensures.grows

pub terms-preserved : goal.terms-preserved
terms-preserved c = record {
  grows = grows-more c.args.store.now c.terms.store c.next_chain.new.store c.terms.invariant.grows c.next_chain.ensures.grows;
  chains = chains-more c.args.store.now c.terms.store c.next_chain.new.store c.ids-id-items.result.now c.args.walk.now c.terms.chains.items c.push.new.self.items c.terms.id-index c.id-item.result c.in_ok-next.next
      c.terms.invariant.grows c.next_chain.ensures.grows c.ids-id-items.ensures c.terms.invariant.many c.terms-test.true c.id-item.is c.requires.walk c.terms.invariant.chains c.in_ok-next.ensures.chain c.in_ok-push.ensures.items;
  many = omega (arith, ap length c.in_ok-push.ensures.items, length-append c.terms.chains.items (c.in_ok-next.next ∷ []), c.terms.invariant.many);
}
