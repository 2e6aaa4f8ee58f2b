-- A core and a clause list with the same clauses.
use Rattle.std.specs.Prelude.{◌≡◌, ◌<◌, ◌≤◌, ℕ, []}
use Rattle.qv_cnf.specs.Listing.{Listing, next_id}
use Rattle.qv_sat.specs.CoreState.{CoreState}

-- the core has the clauses of the list and no step, and both may go on at this id
abbrev pub AreAlike : CoreState → Listing → ℕ → Type 0
AreAlike core list next =
    (core.base ≡ list.live) × (core.steps ≡ []) × (core.top < next) × (next_id list.given ≤ next)
