use Rattle.std.proofs.Common.{◌≡◌, ◌^◌, ◌<◌, ◌++◌, ℕ, List, Some, None, length, map, ap, sym, ◌∙◌, subst}
use Rattle.std.specs.Prelude.{Option, IfSome}
use Rattle.qv_words.specs.Sums.{reduced}
use Rattle.qv_store.specs.Nodes.{tree_at}
use Rattle.qv_rewrite_sums.specs.declared.product.Product.{Product}
use Rattle.qv_rewrite_sums.specs.Held.{monomial_at, sum_at, first_place, is_like, AreWords}
use Rattle.qv_rewrite_sums.proofs.Held.{on-ok}
use Rattle.qv_rewrite_sums.proofs.Alike.{plus-last, plus-raised}
use Rattle.qv_rewrite_sums.proofs.adding.add.Goals as goal

pub like-requires-clause-factors : goal.like-requires-clause-factors
like-requires-clause-factors c = subst (λ (ids : List ℕ). AreWords c.args.width (map (tree_at c.args.store.now) ids)) (sym c.as_slice.ensures) c.requires.product

pub raise-requires-clause-place : goal.raise-requires-clause-place
raise-requires-clause-place c =
    subst (λ (ps : List Product). c.in-Some.place < length ps) c.deref.ensures.value
    (subst (λ (q : Option ℕ). IfSome q (λ k. k < length c.deref.result.now)) c.in-Some.is c.in_ok-place.ensures.within)

pub returns-in-Some : goal.returns-in-Some
returns-in-Some c =
    let trees = c.args.store.now in
    let m = c.args.product.now in
    let p = c.args.sum.now.items in
    let at : first_place (is_like trees m.factors.items) p ≡ Some c.in-Some.place =
    ap (λ (ids : List ℕ). first_place (is_like trees ids) p) (sym c.as_slice.ensures)
    ∙ ap (first_place (is_like trees c.as_slice.result.now)) (sym c.deref.ensures.value) ∙ sym c.in_ok-place.ensures.place ∙ c.in-Some.is in
    on-ok c.raise.result (λ e. e ∙ sym (plus-raised trees (2 ^ c.args.width) (monomial_at trees m) p c.in-Some.place at)) (c.raise.ensures trees)

pub returns-in-None : goal.returns-in-None
returns-in-None c =
    let trees = c.args.store.now in
    let m = c.args.product.now in
    let p = c.args.sum.now.items in
    let at : first_place (is_like trees m.factors.items) p ≡ None =
    ap (λ (ids : List ℕ). first_place (is_like trees ids) p) (sym c.as_slice.ensures)
    ∙ ap (first_place (is_like trees c.as_slice.result.now)) (sym c.deref.ensures.value) ∙ sym c.in_ok-place.ensures.place ∙ c.in-None.is in
    on-ok c.push_reduced.result (λ e. e ∙ ap (λ (ids : List ℕ). sum_at trees p ++ reduced (2 ^ c.args.width) m.coefficient (map (tree_at trees) ids)) c.as_slice-in-None.ensures
    ∙ sym (plus-last trees (2 ^ c.args.width) (monomial_at trees m) p at)) (c.push_reduced.ensures trees)
