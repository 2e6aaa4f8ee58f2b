-- What lies outside regions, and leaves no values.
use Rattle.std.specs.Prelude.{◌≡◌, ◌≢◌, ℕ, Bool, true, List, [], ◌∷◌}
use Rattle.qv_words.specs.Tree.{Tree}
use Rattle.qv_words.specs.Gate.{clauses_value}
use Rattle.qv_words.specs.Clauses.{cnf}
use Rattle.qv_words.specs.Problem.{conjunction}
use Rattle.qv_store.specs.Stores.{StandsAt}

-- no assignment makes the clauses of formulas true
abbrev pub HaveNoModel : List Tree → Type 0
HaveNoModel formulas = (v : ℕ → Bool) → clauses_value v (cnf formulas) ≡ true → ⊥

-- a formula of the store that is the conjunction of some denials; no assignment makes its clauses and
-- those of what is asked true
pub record LeavesNone (trees denials asked : List Tree) (id : ℕ) : Type 0 where
  pub some : denials ≢ []
  pub stands : StandsAt trees id (conjunction denials)
  pub no_model : (v : ℕ → Bool) → clauses_value v (cnf (conjunction denials ∷ asked)) ≡ true → ⊥
