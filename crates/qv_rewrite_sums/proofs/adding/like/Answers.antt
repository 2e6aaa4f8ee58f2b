use Rattle.std.proofs.Common.{◌≡◌, ℕ, true, false, List, map, get_or, ap, sym, ◌∙◌, subst}
use Rattle.qv_words.specs.Sums.{Monomial, same_factors}
use Rattle.qv_store.specs.Nodes.{tree_at}
use Rattle.qv_rewrite_sums.specs.declared.product.Product.{Product}
use Rattle.qv_rewrite_sums.specs.Held.{monomial_at, is_like, AreWords}
use Rattle.qv_rewrite_sums.proofs.Lists.{place-found, place-more}
use Rattle.qv_rewrite_sums.proofs.Held.{at-mapped}
use Rattle.qv_rewrite_sums.proofs.adding.like.Goals as goal

pub same_factors-requires-clause-a : goal.same_factors-requires-clause-a
same_factors-requires-clause-a c =
    subst (λ (ids : List ℕ). AreWords c.args.width (map (tree_at c.args.store.now) ids)) (sym c.as_slice.ensures)
    (subst (λ (m : Product). AreWords c.args.width (map (tree_at c.args.store.now) m.factors.items)) c.index-sum-place.is
    (at-mapped (λ (m : Monomial). AreWords c.args.width m.factors) (monomial_at c.args.store.now) c.args.sum.now c.products.place c.index-sum-place.result c.requires.sum c.products-test.true c.index-sum-place.is))

pub returns-then-branch-clause-place : goal.returns-then-branch-clause-place
returns-then-branch-clause-place c =
    let trees = c.args.store.now in
    let factors = c.args.factors.now in
    let own : is_like trees factors (get_or c.args.sum.now c.products.place c.index-sum-place.result) ≡ true =
    ap (λ (ids : List ℕ). same_factors (map (tree_at trees) ids) (map (tree_at trees) factors)) (sym c.as_slice.ensures) ∙ sym c.in_ok-same_factors.ensures ∙ c.if-branch.true in
    sym (place-found (is_like trees factors) c.args.sum.now c.products.place c.index-sum-place.result c.products.invariant c.products-test.true own)

pub products-preserved : goal.products-preserved
products-preserved c =
    let trees = c.args.store.now in
    let factors = c.args.factors.now in
    let own : is_like trees factors (get_or c.args.sum.now c.products.place c.index-sum-place.result) ≡ false =
    ap (λ (ids : List ℕ). same_factors (map (tree_at trees) ids) (map (tree_at trees) factors)) (sym c.as_slice.ensures) ∙ sym c.in_ok-same_factors.ensures ∙ c.if-branch.false in
    place-more (is_like trees factors) c.args.sum.now c.products.place c.index-sum-place.result c.products.invariant c.products-test.true own
