-- States that a script may be in. No public contract cites this.
use Rattle.std.specs.Prelude.{◌≡◌, ◌<◌, ◌^◌, ℕ, Some, List, All, zip, length}
use Rattle.qv_words.specs.declared.sort.Sort.{Sort}
use Rattle.qv_words.specs.Sort.{IsValueOf}
use Rattle.qv_words.specs.Tree.{Tree}
use Rattle.qv_words.specs.Truth.{AreTrue, IsAssertion, HaveOneSort}
use Rattle.qv_elab_defs.specs.Scopes.{Named}
use Rattle.qv_script_defs.specs.State.{State, Sat, Unsat, constants, last_checked}
use Rattle.qv_script_defs.specs.StateLaws.{IsReached}
use Rattle.qv_script_transcript.specs.Lawful.{prefix_length}

-- a value of its sort for each constant
pub record AreModel (constants : Named Sort) (values : List ℕ) : Type 0 where
  pub each : length values ≡ length constants
  pub sorts : All (λ x. IsValueOf x.1 x.0.1) (zip constants values)

-- assertions that aren't true together, in which constants of one index have one sort, with fewer
-- than 2^32 places
pub record AreRefuted (trees : List Tree) : Type 0 where
  pub assertions : All IsAssertion trees
  pub one_sort : HaveOneSort trees
  pub untrue : AreTrue trees → ⊥
  pub few : prefix_length trees < 2 ^ 32

-- a state that commands and answers led to; where the last answer is sat, its values are a model, and
-- where it is unsat, what was checked isn't true
pub record IsCurrent (s : State) : Type 0 where
  pub reached : IsReached s
  pub model : (values : List ℕ) → s.last ≡ Some (Sat values) → AreModel (constants s) values
  pub refuted : s.last ≡ Some Unsat → AreRefuted (last_checked s)
