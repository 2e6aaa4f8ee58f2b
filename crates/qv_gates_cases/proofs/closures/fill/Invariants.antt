use Rattle.std.proofs.Common.{◌≡◌, ◌≤◌, ◌+◌, [], map}
use Rattle.qv_cnf.specs.Listing.{next_id}
use Rattle.qv_gates_cases.proofs.closures.fill.Given as goal

-- the ids up to this place were given, and no step came
abbrev pub invariant-lists : goal.invariant-lists
invariant-lists l = record {
  next : next_id (map (λ c. c.id) l.closure.base) ≤ l.place + 1;
  none : l.closure.steps ≡ [];
}
