use Rattle.std.proofs.Common.{◌≡◌, ◌≤◌, [], ◌∷◌, length, slice_get, ap, sym, ◌∙◌, arith, length-append}
use Rattle.qv_store.specs.Nodes.{tree_at}
use Rattle.qv_store.specs.Walks.{named, with_subtrees}
use Rattle.qv_store.proofs.Passes.{contains-earlier, earlier-in}
use Rattle.qv_store.proofs.Replacement.{grows-more}
use Rattle.qv_elab_macros.proofs.Insertion.{within-next, asked-next, made-next}
use Rattle.qv_elab_macros.proofs.using.put_body.Goals as goal

pub put_next-requires-clause-id : goal.put_next-requires-clause-id
put_next-requires-clause-id c =
    within-next c.args.store.now c.terms.store c.visit.new.self c.ids-term-items.result.now c.terms.made.items c.args.args.now c.args.binders c.terms.term-index c.term-item.result
    c.terms.invariant.grows c.ids-term-items.ensures c.terms.invariant.many c.terms-test.true c.term-item.is c.visit.ensures.walk c.requires.args c.terms.invariant.right

pub put_next-requires-clause-next : goal.put_next-requires-clause-next
put_next-requires-clause-next c =
    let trees = c.args.store.now in
    let order : named trees c.visit.new.self ≡ with_subtrees [] (tree_at trees c.args.id) =
    c.in_ok-visit.ensures.order ∙ ap (λ ids. with_subtrees (named trees ids) (tree_at trees c.args.id)) c.new-walk.ensures in
    asked-next c.args.store.now c.terms.store c.visit.new.self c.ids-term-items.result.now c.terms.made.items c.args.args.now c.args.binders c.terms.term-index c.term-item.result
    c.terms.invariant.grows c.ids-term-items.ensures c.terms.invariant.many c.terms-test.true c.term-item.is c.visit.ensures.walk c.requires.args c.terms.invariant.right
    c.deref.result.now c.deref.ensures.value c.args.id order c.requires.sorted

pub returns-in_err-put-clause-grows : goal.returns-in_err-put-clause-grows
returns-in_err-put-clause-grows c = grows-more c.args.store.now c.terms.store c.put_next.new.store c.terms.invariant.grows c.put_next.ensures.grows

pub returns-in_err-push-clause-grows : goal.returns-in_err-push-clause-grows
returns-in_err-push-clause-grows c = grows-more c.args.store.now c.terms.store c.put_next.new.store c.terms.invariant.grows c.put_next.ensures.grows

pub terms-preserved : goal.terms-preserved
terms-preserved c = record {
  grows = grows-more c.args.store.now c.terms.store c.put_next.new.store c.terms.invariant.grows c.put_next.ensures.grows;
  many = omega (arith, ap length c.in_ok-push.ensures.items, length-append c.terms.made.items (c.in_ok-put.put ∷ []), c.terms.invariant.many);
  right = made-next c.args.store.now c.terms.store c.visit.new.self c.ids-term-items.result.now c.terms.made.items c.args.args.now c.args.binders c.terms.term-index c.term-item.result
      c.terms.invariant.grows c.ids-term-items.ensures c.terms.invariant.many c.terms-test.true c.term-item.is c.visit.ensures.walk c.requires.args c.terms.invariant.right
      c.put_next.new.store c.in_ok-put.put c.push.new.self.items c.put_next.ensures.grows c.in_ok-put.ensures.id c.in_ok-push.ensures.items;
}

pub result_of-requires : goal.result_of-requires
result_of-requires c =
    let many : length c.visit.new.self ≤ length c.deref-2.result.now =
    omega (arith, ap length c.deref-2.ensures.value, c.terms.invariant.many, c.terms-test.false, ap length c.ids-term-items.ensures) in
    earlier-in c.visit.new.self (length c.visit.new.self) (length c.deref-2.result.now) c.args.id many (contains-earlier c.visit.new.self c.args.id c.in_ok-visit.ensures.has)

pub returns-clause-id : goal.returns-clause-id
returns-clause-id c =
    c.terms.invariant.right c.result_of.ensures.place c.args.id c.result_of.result.now (ap (λ is. slice_get is c.result_of.ensures.place) c.ids-term-items.ensures ∙ c.result_of.ensures.at)
    (ap (λ ms. slice_get ms c.result_of.ensures.place) (sym c.deref-2.ensures.value) ∙ c.result_of.ensures.found)
