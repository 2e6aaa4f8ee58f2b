use Rattle.std.proofs.Common.{◌≡◌, ℕ, Bool, true, false, not, List, map, length, get_or, ap, sym, ◌∙◌}
use Rattle.std.specs.Prelude.{Option, unwrap_or}
use Rattle.qv_words.specs.Sums.{factors_before}
use Rattle.qv_store.specs.Nodes.{tree_at}
use Rattle.qv_rewrite_sums.specs.declared.product.Product.{Product}
use Rattle.qv_rewrite_sums.specs.Held.{monomial_at, product_before}
use Rattle.qv_rewrite_sums.proofs.Lists.{place-found, place-more}
use Rattle.qv_rewrite_sums.proofs.ordering.place_of_product.Goals as goal

pub returns-then-not-factors_before-clause-place : goal.returns-then-not-factors_before-clause-place
returns-then-not-factors_before-clause-place c =
    let trees = c.args.store.now in
    let next = c.args.next.now in
    let test : Product → Bool = λ other. not (product_before (monomial_at trees other) (monomial_at trees next)) in
    let own : test (get_or c.args.ordered.now c.products.place c.index-ordered-place.result) ≡ true =
    ap not (ap (λ (ids : List ℕ). factors_before (map (tree_at trees) ids) (map (tree_at trees) next.factors.items)) (sym c.as_slice.ensures)
    ∙ ap (λ (ids : List ℕ). factors_before (map (tree_at trees) c.as_slice.result.now) (map (tree_at trees) ids)) (sym c.as_slice-factors.ensures)
    ∙ sym c.factors_before.ensures ∙ c.if-not-factors_before.true) in
    sym (ap (λ (q : Option ℕ). unwrap_or q (length c.args.ordered.now)) (place-found test c.args.ordered.now c.products.place c.index-ordered-place.result c.products.invariant c.products-test.true own))

pub products-preserved : goal.products-preserved
products-preserved c =
    let trees = c.args.store.now in
    let next = c.args.next.now in
    let test : Product → Bool = λ other. not (product_before (monomial_at trees other) (monomial_at trees next)) in
    let own : test (get_or c.args.ordered.now c.products.place c.index-ordered-place.result) ≡ false =
    ap not (ap (λ (ids : List ℕ). factors_before (map (tree_at trees) ids) (map (tree_at trees) next.factors.items)) (sym c.as_slice.ensures)
    ∙ ap (λ (ids : List ℕ). factors_before (map (tree_at trees) c.as_slice.result.now) (map (tree_at trees) ids)) (sym c.as_slice-factors.ensures)
    ∙ sym c.factors_before.ensures ∙ c.if-not-factors_before.false) in
    place-more test c.args.ordered.now c.products.place c.index-ordered-place.result c.products.invariant c.products-test.true own
