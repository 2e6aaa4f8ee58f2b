-- What the steps of a closure give.
use Rattle.std.specs.Prelude.{◌≡◌, ℕ, Bool, List, ◌++◌}
use Rattle.qv_cnf.specs.Listing.{Numbered, clauses_of}
use Rattle.qv_cnf.specs.LratLine.{LratLine}
use Rattle.qv_cnf.specs.Refutation.{Refutes, standing_at}
use Rattle.qv_cnf.specs.Truth.{IsModel}
use Rattle.qv_gates.specs.Closing.{Adds, added}

-- the clauses that are added are true wherever those of the base are
abbrev pub AddedAreTrue : Type 0
AddedAreTrue =
    (v : ℕ → Bool) (base : List Numbered) (steps : List LratLine) →
    Adds (standing_at base) steps → IsModel v (clauses_of base) → IsModel v (clauses_of (base ++ added steps))

-- what refutes the base with the clauses that are added refutes the base, behind the steps
abbrev pub RefutesBehind : Type 0
RefutesBehind =
    (base : List Numbered) (steps more : List LratLine) →
    Adds (standing_at base) steps → Refutes (base ++ added steps) more → Refutes base (steps ++ more)
