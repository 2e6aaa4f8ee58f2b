-- Where an analysis stands.
use Rattle.std.specs.Prelude.{◌≡◌, ℕ, ◌≤◌, false, List, [], ◌∷◌, ◌++◌, map, pos, All, IsSome}
use Rattle.qv_cnf.specs.Derivation.{spares_hint, spares_literal}
use Rattle.qv_cnf.specs.Listing.{clause_named}
use Rattle.qv_cnf.specs.Refutation.{IsRup}
use Rattle.qv_cnf.specs.Literal.{Literal}
use Rattle.qv_learn.specs.Gathering.{Gathered, IsGathering}
use Rattle.qv_learn.specs.Learning.{IsFirstPoint, LearnsPoint}
use Rattle.qv_learn.specs.Refuting.{IsRefuting}
use Rattle.qv_learn.specs.Searching.{Searched}
use Rattle.qv_learn.specs.Using.{IsUsing}
use Rattle.qv_watch.specs.TrailState.{TrailState}

-- the hints of the search refute and are used, and its clause is gathered; above level 0 it began at the first
-- unique implication point
pub record IsAnalysing (t : TrailState) (conflict : ℕ) (between : List ℕ) (s : Searched) : Type 0 where
  pub points : List Literal
  pub point : 1 ≤ t.level → (u : Literal) × (points ≡ u ∷ []) × IsFirstPoint t conflict u
  pub refuting : IsRefuting t conflict s
  pub using : IsUsing t conflict s
  pub gathering : IsGathering t conflict points between s

-- what is known of a learnt clause: it follows by its hints, the last of which is the conflict's
-- clause, and needs each literal and each hint for that; and it was gathered; above level 0 it
-- begins at the first unique implication point
pub record IsAnalysed (t : TrailState) (conflict : ℕ) (lits : List Literal) (hints : List ℕ) (level : ℕ) : Type 0 where
  pub refutes : IsRup t.clauses lits (map pos hints)
  pub attached : All (λ id. IsSome (clause_named id t.clauses)) hints
  pub literals_needed : spares_literal t.clauses lits (map pos hints) ≡ false
  pub hints_needed : spares_hint t.clauses lits (map pos hints) ≡ false
  pub last : (before : List ℕ) × (hints ≡ before ++ conflict ∷ [])
  pub points : List Literal
  pub gathered : Gathered t conflict points lits hints level
  pub first_point : 1 ≤ t.level → LearnsPoint t conflict lits
