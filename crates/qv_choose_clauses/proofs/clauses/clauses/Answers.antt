use Rattle.std.proofs.Common.{◌≡◌, ◌∷◌, [], ◌++◌, List, ℕ, length, ap, sym, ◌∙◌, subst, arith, slice_get, Some, length-append}
use Rattle.qv_choose_paths.proofs.SceneLaws.{at-place}
use Rattle.qv_choose_clauses.specs.declared.clauses.Clause.{Clause}
use Rattle.qv_choose_clauses.specs.Clauses.{AreClauses}
use Rattle.qv_choose_clauses.proofs.ClauseLaws.{clauses-push, clauses-none}
use Rattle.qv_choose_clauses.proofs.clauses.clauses.Goals as goal

pub terms-init : goal.terms-init
terms-init c = record {
  many = ap length c.new-clauses.ensures.items;
  right = clauses-none c.args.sight.now.place c.args.store.now c.ids-term-items.result.now c.new-clauses.result.items c.new-clauses.ensures.items;
}

pub clause_of-clause-requires-clause-at : goal.clause_of-clause-requires-clause-at
clause_of-clause-requires-clause-at c =
    ap (λ is. slice_get is (length c.deref.result.now)) (sym c.ids-term-items.ensures) ∙ ap (λ xs. slice_get c.ids-term-items.result.now (length xs)) c.deref.ensures.value
    ∙ at-place c.ids-term-items.result.now c.terms.clauses.items c.terms.term-index c.term-item.result c.terms.invariant.many c.terms-test.true c.term-item.is

pub clause_of-clause-requires-clause-clauses : goal.clause_of-clause-requires-clause-clauses
clause_of-clause-requires-clause-clauses c =
    subst (λ (xs : List Clause). AreClauses c.args.sight.now.place c.args.store.now c.args.sight.now.walk xs) (sym c.deref.ensures.value)
    (subst (λ (is : List ℕ). AreClauses c.args.sight.now.place c.args.store.now is c.terms.clauses.items) c.ids-term-items.ensures c.terms.invariant.right)

pub terms-preserved : goal.terms-preserved
terms-preserved c =
    let items : c.push.new.self.items ≡ c.terms.clauses.items ++ c.clause_of-clause.result ∷ [] = c.in_ok-push.ensures.items in
    let at : slice_get c.ids-term-items.result.now (length c.terms.clauses.items) ≡ Some c.term-item.result =
    at-place c.ids-term-items.result.now c.terms.clauses.items c.terms.term-index c.term-item.result c.terms.invariant.many c.terms-test.true c.term-item.is in
    record {
      many = omega (arith, ap length items, length-append c.terms.clauses.items (c.clause_of-clause.result ∷ []), c.terms.invariant.many);
      right = subst (λ (xs : List Clause). AreClauses c.args.sight.now.place c.args.store.now c.ids-term-items.result.now xs) (sym items)
          (clauses-push c.args.sight.now.place c.args.store.now c.ids-term-items.result.now c.terms.clauses.items c.term-item.result c.clause_of-clause.result c.terms.invariant.right at c.clause_of-clause.ensures);
    }

pub returns-clause-clauses : goal.returns-clause-clauses
returns-clause-clauses c = subst (λ (is : List ℕ). AreClauses c.args.sight.now.place c.args.store.now is c.terms.clauses.items) c.ids-term-items.ensures c.terms.invariant.right
