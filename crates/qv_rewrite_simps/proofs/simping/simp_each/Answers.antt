use Rattle.std.proofs.Common.{[], ◌∷◌, length, ap, arith, length-append}
use Rattle.qv_store.specs.Nodes.{tree_at}
use Rattle.qv_store.proofs.Replacement.{grows-more}
use Rattle.qv_rewrite_simps.proofs.Applying.{grows-itself, free-item}
use Rattle.qv_rewrite_simps.proofs.Found.{next-of, next-low, simped-more, simped-none}
use Rattle.qv_rewrite_simps.proofs.simping.simp_each.Goals as goal

pub terms-init : goal.terms-init
terms-init c = record {
  grows = grows-itself c.args.store.now;
  made = simped-none c.args.store.now (tree_at c.args.store.now) c.args.walk.now c.new-made.result.items c.new-made.ensures.items;
  many = ap length c.new-made.ensures.items;
}

pub simp_next-requires : goal.simp_next-requires
simp_next-requires c = record {
  id = next-low c.args.store.now c.terms.store c.ids-id-items.result.now c.args.walk.now c.terms.id-index c.id-item.result c.terms.invariant.grows c.ids-id-items.ensures c.terms-test.true c.id-item.is c.requires.walk;
  free = free-item c.args.store.now c.terms.store c.ids-id-items.result.now c.args.walk.now c.terms.id-index c.id-item.result c.terms.invariant.grows c.ids-id-items.ensures c.terms-test.true c.id-item.is c.requires.walk c.requires.free;
  next = next-of c.args.store.now c.terms.store c.ids-id-items.result.now c.args.walk.now c.terms.made.items c.deref.result.now c.terms.id-index c.id-item.result
      c.terms.invariant.grows c.ids-id-items.ensures c.deref.ensures.value c.terms.invariant.many c.terms-test.true c.id-item.is c.requires.walk c.terms.invariant.made;
}

pub returns-in_err-next-clause-grows : goal.returns-in_err-next-clause-grows
returns-in_err-next-clause-grows c = grows-more c.args.store.now c.terms.store c.simp_next.new.store c.terms.invariant.grows c.simp_next.ensures.grows

pub returns-in_err-push-clause-grows : goal.returns-in_err-push-clause-grows
returns-in_err-push-clause-grows c = grows-more c.args.store.now c.terms.store c.simp_next.new.store c.terms.invariant.grows c.simp_next.ensures.grows

pub terms-preserved : goal.terms-preserved
terms-preserved c = record {
  grows = grows-more c.args.store.now c.terms.store c.simp_next.new.store c.terms.invariant.grows c.simp_next.ensures.grows;
  made = simped-more c.args.store.now c.terms.store c.simp_next.new.store c.ids-id-items.result.now c.args.walk.now c.terms.made.items c.push.new.self.items c.terms.id-index c.id-item.result c.in_ok-next.next
      c.terms.invariant.grows c.simp_next.ensures.grows c.ids-id-items.ensures c.terms.invariant.many c.terms-test.true c.id-item.is c.requires.walk c.terms.invariant.made c.in_ok-next.ensures.id c.in_ok-push.ensures.items;
  many = omega (arith, ap length c.in_ok-push.ensures.items, length-append c.terms.made.items (c.in_ok-next.next ∷ []), c.terms.invariant.many);
}
