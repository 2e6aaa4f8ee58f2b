-- The state in which the elaboration of a definition's body begins. No public contract cites this.
use Rattle.std.specs.Prelude.{◌≡◌, ℕ, List, length}
use Rattle.qv_words.specs.declared.sort.Sort.{Sort}
use Rattle.qv_words.specs.Tree.{Tree}
use Rattle.qv_elab_defs.specs.Scopes.{Named}
use Rattle.qv_elab_defs.specs.TreeLaws.{AreParameters}
use Rattle.qv_elab_scope.specs.Ids.{AreVariables}
use Rattle.qv_elab_frames.specs.Loop.{State, begun}

-- nothing is open, and the parameters are bound as variables
pub record IsBegun (trees : List Tree) (parameters : Named Sort) (s : State) : Type 0 where
  pub names : Named ℕ
  pub state : s ≡ begun names (length parameters)
  pub variables : AreVariables trees 0 parameters names
  pub are_parameters : AreParameters parameters
