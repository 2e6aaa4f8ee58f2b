-- Which answers a check may have, and which cores.
use Rattle.std.specs.Prelude.{◌≡◌, ◌≢◌, ℕ, Some, List, All, length, zip, slice_get, codes}
use Rattle.qv_words.specs.Sort.{IsValueOf}
use Rattle.qv_words.specs.declared.sort.Sort.{Sort}
use Rattle.qv_words.specs.Tree.{Tree}
use Rattle.qv_elab_defs.specs.Scopes.{Named}
use Rattle.qv_words.specs.Truth.{constants_of_each, HoldUnder, AreTrue}
use Rattle.qv_words.specs.Problem.{problem_of}
use Rattle.qv_core.specs.Without.{without, dropped}
use Rattle.qv_script_defs.specs.State.{Last, Sat, Unsat, Unknown, places_of}
use Rattle.qv_script_defs.specs.Texts.{line}

-- a value for each constant in force, under which the trees hold, and 0 where the constant occurs
-- in none of them
pub record AreValues (constants : Named Sort) (trees : List Tree) (values : List ℕ) : Type 0 where
  pub each : length values ≡ length constants
  pub sorts : All (λ x. IsValueOf x.1 x.0.1) (zip constants values)
  pub hold : HoldUnder values trees
  pub unused : (i v : ℕ) → slice_get values i ≡ Some v → All (λ leaf. leaf.0 ≢ i) (constants_of_each trees) → v ≡ 0

-- the answer may be given where these constants and trees are in force
abbrev pub IsLawfulAnswer : Named Sort → List Tree → Last → Type 0
IsLawfulAnswer constants trees (Sat values) = AreValues constants trees values
IsLawfulAnswer constants trees Unsat = AreTrue trees → ⊥
IsLawfulAnswer constants trees (Unknown spent) = Unit {0}

abbrev pub answer_line : Last → List ℕ
answer_line (Sat values) = line (codes "sat")
answer_line Unsat = line (codes "unsat")
answer_line (Unknown spent) = line (codes "unknown")

abbrev pub prefix_length : List Tree → ℕ
prefix_length trees = length (problem_of trees).prefix

-- Of trees of which those at these places have texts, the ones at the kept places may be a core: with
-- all trees that have no text they aren't true together.
abbrev pub IsLawfulCore : List Tree → Named ℕ → (kept : List ℕ) → Type 0
IsLawfulCore trees texts kept = AreTrue (without (dropped (places_of texts) kept) trees) → ⊥
