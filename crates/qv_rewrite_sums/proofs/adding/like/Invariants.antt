-- none of the products so far is like the factors
use Rattle.std.proofs.Common.{◌≡◌, None, take}
use Rattle.qv_rewrite_sums.specs.Held.{first_place, is_like}
use Rattle.qv_rewrite_sums.proofs.adding.like.Given as goal

abbrev pub invariant-products : goal.invariant-products
invariant-products l = first_place (is_like l.store l.factors) (take l.place l.sum) ≡ None
