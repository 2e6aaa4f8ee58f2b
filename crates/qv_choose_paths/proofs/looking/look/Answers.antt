use Rattle.std.proofs.Common.{◌≡◌, ◌∷◌, [], ◌++◌, List, ℕ, length, ap, sym, subst, arith, slice_get, Some, length-append}
use Rattle.qv_choose_paths.specs.declared.ways.Look.{Look}
use Rattle.qv_choose_paths.specs.Looks.{AreLooks}
use Rattle.qv_choose_paths.proofs.SceneLaws.{at-place, looks-push, looks-none}
use Rattle.qv_choose_paths.proofs.looking.look.Goals as goal

pub terms-init : goal.terms-init
terms-init c = record {
  many = ap length c.new-looks.ensures.items;
  right = looks-none c.args.place c.args.store.now c.ids-term-items.result.now c.new-looks.result.items c.new-looks.ensures.items;
}

pub look_at-look-requires-clause-looks : goal.look_at-look-requires-clause-looks
look_at-look-requires-clause-looks c =
    subst (λ (xs : List Look). AreLooks c.args.place c.args.store.now c.args.walk.now xs) (sym c.deref.ensures.value)
    (subst (λ (is : List ℕ). AreLooks c.args.place c.args.store.now is c.terms.looks.items) c.ids-term-items.ensures c.terms.invariant.right)

pub terms-preserved : goal.terms-preserved
terms-preserved c =
    let items : c.push.new.self.items ≡ c.terms.looks.items ++ c.look_at-look.result ∷ [] = c.in_ok-push.ensures.items in
    let at : slice_get c.ids-term-items.result.now (length c.terms.looks.items) ≡ Some c.term-item.result =
    at-place c.ids-term-items.result.now c.terms.looks.items c.terms.term-index c.term-item.result c.terms.invariant.many c.terms-test.true c.term-item.is in
    record {
      many = omega (arith, ap length items, length-append c.terms.looks.items (c.look_at-look.result ∷ []), c.terms.invariant.many);
      right = subst (λ (xs : List Look). AreLooks c.args.place c.args.store.now c.ids-term-items.result.now xs) (sym items)
          (looks-push c.args.place c.args.store.now c.ids-term-items.result.now c.terms.looks.items c.term-item.result c.look_at-look.result c.terms.invariant.right at c.look_at-look.ensures);
    }

pub returns-clause-looks : goal.returns-clause-looks
returns-clause-looks c = subst (λ (is : List ℕ). AreLooks c.args.place c.args.store.now is c.terms.looks.items) c.ids-term-items.ensures c.terms.invariant.right
