-- The problem of formulas, over a store.
use Rattle.std.specs.Prelude.{◌≡◌, ℕ, ◌<◌, List, length, map, slice_get, unwrap_or}
use Rattle.qv_words.specs.Tree.{Tree}
use Rattle.qv_words.specs.Truth.{constants_of_each}
use Rattle.qv_words.specs.Problem.{problem_of, in_order}
use Rattle.qv_store.specs.declared.problem.Problem.{Problem}
use Rattle.qv_store.specs.Problems.{problem_in}

-- the values of constants of these indices, in order
abbrev pub values_for : List ℕ → List ℕ → List ℕ
values_for indices c = map (λ i. unwrap_or (slice_get c i) 0) indices

-- its problem, and the indices of the constants
pub record IsProblemOf (trees : List Tree) (p : Problem) (formulas : List Tree) : Type 0 where
  pub problem : problem_in trees p ≡ problem_of formulas
  pub constants : p.constants.items ≡ map (λ c. c.0) (in_order (constants_of_each formulas))
  pub below : p.matrix < length trees
