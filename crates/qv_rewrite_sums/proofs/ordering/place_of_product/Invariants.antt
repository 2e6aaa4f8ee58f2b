-- all products so far come before
use Rattle.std.proofs.Common.{◌≡◌, None, take, not}
use Rattle.qv_rewrite_sums.specs.Held.{monomial_at, first_place, product_before}
use Rattle.qv_rewrite_sums.proofs.ordering.place_of_product.Given as goal

abbrev pub invariant-products : goal.invariant-products
invariant-products l = first_place (λ other. not (product_before (monomial_at l.store other) (monomial_at l.store l.next))) (take l.place l.ordered) ≡ None
