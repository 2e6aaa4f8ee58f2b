-- The live clauses, each under its id.
use Rattle.std.specs.Prelude.{◌≡◌, ℕ, ◌<◌, if◌then◌else◌, List, Some, None, All}
use Rattle.qv_cnf.specs.Listing.{Numbered, clause_named}
use Rattle.qv_sat.specs.Aside.{is_listed}

-- the live clauses, each under its own id, are those that are attached, and those that are left aside
pub record AreAttached (aside : List ℕ) (live attached : List Numbered) : Type 0 where
  pub named : (id : ℕ) → clause_named id attached ≡ (if is_listed id aside then None else clause_named id live)
  pub own : All (λ c. clause_named c.id live ≡ Some c.lits) live

-- the ids are below a bound
abbrev pub AllBelow : ℕ → List Numbered → Type 0
AllBelow bound clauses = All (λ c. c.id < bound) clauses
