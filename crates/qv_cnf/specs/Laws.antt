-- What refutations and derivations give.
use Rattle.std.specs.Prelude.{◌≡◌, ℕ, ℤ, Bool, true, List, [], ◌∷◌, ◌++◌, map}
use Rattle.qv_cnf.specs.Derivation.{IsDerivation}
use Rattle.qv_cnf.specs.Listing.{Numbered, Rises, clauses_of}
use Rattle.qv_cnf.specs.Literal.{Literal}
use Rattle.qv_cnf.specs.LratLine.{LratLine}
use Rattle.qv_cnf.specs.Refutation.{IsRup, Refutes}
use Rattle.qv_cnf.specs.Truth.{clause_value, HasNoModel, IsModel}

-- a clause that follows by its hints is true in every assignment that makes the live clauses true
abbrev pub RupIsTrue : Type 0
RupIsTrue =
    (v : ℕ → Bool) (live : List Numbered) (lits : List Literal) (hints : List ℤ) →
    IsRup live lits hints → IsModel v (clauses_of live) → clause_value v lits ≡ true

-- clauses that are refuted have no model, where no two have the same id
abbrev pub RefutedHasNoModel : Type 0
RefutedHasNoModel =
    (clauses : List Numbered) (lines : List LratLine) →
    Rises 0 (map (λ c. c.id) clauses) → Refutes clauses lines → HasNoModel (clauses_of clauses)

-- a derivation with its last step dropped is a derivation
abbrev pub DerivationWithoutLast : Type 0
DerivationWithoutLast =
    (base : List Numbered) (steps : List LratLine) (step : LratLine) →
    IsDerivation base (steps ++ step ∷ []) → IsDerivation base steps
