-- the term isn't among those so far
use Rattle.std.proofs.Common.{◌≡◌, ◌==◌, ℕ, None, take}
use Rattle.qv_rewrite_sums.specs.Held.{first_place}
use Rattle.qv_rewrite_xors.proofs.chained.place_of.Given as goal

abbrev pub invariant-places : goal.invariant-places
invariant-places l = first_place (λ (other : ℕ). other == l.id) (take l.place l.ids) ≡ None
