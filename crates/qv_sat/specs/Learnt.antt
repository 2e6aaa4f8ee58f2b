-- What is known of a learnt clause.
use Rattle.std.specs.Prelude.{◌≡◌, ℕ, ◌≤◌, false, List, [], map, pos, Some, IsSome, All}
use Rattle.qv_cnf.specs.Derivation.{spares_hint, spares_literal}
use Rattle.qv_cnf.specs.Listing.{clause_named}
use Rattle.qv_cnf.specs.Literal.{Literal}
use Rattle.qv_cnf.specs.Refutation.{IsRup}
use Rattle.qv_learn.specs.Learning.{Asserts}
use Rattle.qv_watch.specs.Entries.{value_of}
use Rattle.qv_watch.specs.TrailState.{TrailState}

-- it follows by its hints and needs each literal and each hint for that, it is false, and one of
-- its literals is of the present level, unless that is 0
pub record IsLearnt (t : TrailState) (lits : List Literal) (hints : List ℕ) (level : ℕ) : Type 0 where
  pub rup : IsRup t.clauses lits (map pos hints)
  pub attached : All (λ id. IsSome (clause_named id t.clauses)) hints
  pub literals_needed : spares_literal t.clauses lits (map pos hints) ≡ false
  pub hints_needed : spares_hint t.clauses lits (map pos hints) ≡ false
  pub falsified : All (λ l. value_of t.entries l ≡ Some false) lits
  pub at_zero : t.level ≡ 0 → (lits ≡ []) × (level ≡ 0)
  pub asserts : 1 ≤ t.level → Asserts t lits level
