use Rattle.std.proofs.Common.{◌≡◌, ℕ, ◌+◌, ◌-◌, ◌<◌, Bool, not, List, map, length, drop, refl, ap, sym, ◌∙◌, subst, arith}
use Rattle.std.specs.List.{AllByRecursion, insert}
use Rattle.std.proofs.lemmas.List.Elements.{recursion_from_All}
use Rattle.qv_words.specs.Sums.{comes_before, in_order, with_order}
use Rattle.qv_store.specs.Nodes.{tree_at}
use Rattle.qv_rewrite_sums.specs.declared.product.Product.{Product}
use Rattle.qv_rewrite_sums.specs.Held.{monomial_at, sum_at, product_before, place_or_end, AreBelow}
use Rattle.qv_rewrite_sums.proofs.Ordered.{product-more, inserted}
use Rattle.qv_rewrite_sums.proofs.ordering.with_order.Goals as goal

pub left-preserved : goal.left-preserved
left-preserved c =
    let trees = c.args.store.now in
    let sum = c.args.sum.now in
    let left : ℕ = c.left.left - 1 in
    let low : left < length sum = omega (arith, c.left-test.true, c.left.invariant.within) in
    let again : left + 1 ≡ c.left.left = omega (arith, c.left-test.true) in
    let x = c.index-sum-left.result in
    let y : Product = record { coefficient = x.coefficient; factors = c.in_ok-factors.factors } in
    let old = c.left.ordered.items in
    let below : Product → Type 0 = λ m. AllByRecursion (λ id. id < length trees) m.factors.items in
    let test : Product → Bool = λ other. not (product_before (monomial_at trees other) (monomial_at trees y)) in
    let so : sum_at trees old ≡ with_order (sum_at trees (drop (left + 1) sum)) =
    c.left.invariant.order ∙ ap (λ (k : ℕ). with_order (sum_at trees (drop k sum))) (sym again) in
    let own : map (tree_at trees) y.factors.items ≡ in_order comes_before (map (tree_at trees) x.factors.items) =
    c.in_ok-factors.ensures.factors ∙ ap (λ (ids : List ℕ). in_order comes_before (map (tree_at trees) ids)) c.as_slice.ensures in
    let place : c.place_of_product-place.result ≡ place_or_end test old = c.place_of_product-place.ensures.place ∙ ap (place_or_end test) c.deref.ensures.value in
    let put : c.insert.new.self.items ≡ insert old c.place_of_product-place.result y = c.in_ok-insert.ensures.items in
    record {
      within = omega (arith, c.left.invariant.within);
      order = product-more trees sum old c.insert.new.self.items left low so x y c.index-sum-left.is refl own (put ∙ ap (λ (k : ℕ). insert old k y) place);
      below = subst (AreBelow (length trees)) (sym put)
          (inserted below old c.place_of_product-place.result y c.left.invariant.below (recursion_from_All (λ (id : ℕ). id < length trees) y.factors.items c.in_ok-factors.ensures.below));
    }
