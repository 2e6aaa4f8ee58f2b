use Rattle.std.proofs.Common.{◌≡◌, [], ◌∷◌, ◌++◌, length, slice_get, Some, ap, sym, subst, arith, refl, length-append}
use Rattle.qv_store.specs.Evaluating.{AreWords}
use Rattle.qv_store.proofs.Evaluation.{words-none, words-push, item-at}
use Rattle.qv_store.proofs.store.Store.eval_all.Goals as goal

pub terms-init : goal.terms-init
terms-init c = record {
  many = ap length c.new-words.ensures.items;
  right = words-none c.args.consts.now c.args.places.now c.args.self.now c.ids-term-items.result.now c.new-words.result.items c.new-words.ensures.items;
}

pub evaluate-word-requires-clause-next : goal.evaluate-word-requires-clause-next
evaluate-word-requires-clause-next c =
    let trees = c.args.self.now in
    let ids : c.ids-term-items.result.now ≡ c.args.walk.now = c.ids-term-items.ensures in
    let at : slice_get c.args.walk.now (length c.deref.result.now) ≡ Some c.term-item.result =
    item-at c.ids-term-items.result.now c.args.walk.now c.deref.result.now c.terms.words.items c.terms.term-index c.term-item.result ids c.deref.ensures.value c.terms.invariant.many c.terms-test.true c.term-item.is in
    record {
      walk = c.requires.walk;
      at = at;
      found = subst (λ ws. AreWords c.args.consts.now c.args.places.now trees c.args.walk.now ws) (sym c.deref.ensures.value)
          (subst (λ is. AreWords c.args.consts.now c.args.places.now trees is c.terms.words.items) ids c.terms.invariant.right);
      value = c.requires.values (length c.deref.result.now) c.term-item.result at;
    }

pub terms-preserved : goal.terms-preserved
terms-preserved c =
    let trees = c.args.self.now in
    let items : c.push.new.self.items ≡ c.terms.words.items ++ c.evaluate-word.result ∷ [] = c.in_ok-push.ensures.items in
    let at : slice_get c.ids-term-items.result.now (length c.terms.words.items) ≡ Some c.term-item.result =
    item-at c.ids-term-items.result.now c.ids-term-items.result.now c.terms.words.items c.terms.words.items c.terms.term-index c.term-item.result refl refl c.terms.invariant.many c.terms-test.true c.term-item.is in
    record {
      many = omega (arith, ap length items, length-append c.terms.words.items (c.evaluate-word.result ∷ []), c.terms.invariant.many);
      right = subst (λ ws. AreWords c.args.consts.now c.args.places.now trees c.ids-term-items.result.now ws) (sym items)
          (words-push c.args.consts.now c.args.places.now trees c.ids-term-items.result.now c.terms.words.items c.term-item.result c.evaluate-word.result c.terms.invariant.right at c.evaluate-word.ensures);
    }

pub returns-clause-words : goal.returns-clause-words
returns-clause-words c =
    subst (λ is. AreWords c.args.consts.now c.args.places.now c.args.self.now is c.terms.words.items) c.ids-term-items.ensures c.terms.invariant.right
