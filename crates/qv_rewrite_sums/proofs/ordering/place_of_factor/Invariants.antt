-- all factors so far come before
use Rattle.std.proofs.Common.{◌≡◌, None, take, not}
use Rattle.qv_words.specs.Sums.{comes_before}
use Rattle.qv_store.specs.Nodes.{tree_at}
use Rattle.qv_rewrite_sums.specs.Held.{first_place}
use Rattle.qv_rewrite_sums.proofs.ordering.place_of_factor.Given as goal

abbrev pub invariant-factors : goal.invariant-factors
invariant-factors l = first_place (λ other. not (comes_before (tree_at l.store other) (tree_at l.store l.next))) (take l.place l.ordered) ≡ None
