-- A list of formulas behind further passes. No public contract cites this.
use Rattle.std.specs.Prelude.{◌≡◌, ℕ, ◌<◌, List, ◌++◌, length, All}
use Rattle.qv_words.specs.Tree.{Tree, IsQuantifierFree}
use Rattle.qv_store.specs.Nodes.{tree_at}
use Rattle.qv_store.specs.Stores.{Grows}
use Rattle.qv_store.specs.Walks.{named}
use Rattle.qv_rewrite_passes.specs.declared.pass.Pass.{Pass}
use Rattle.qv_rewrite_passes.specs.Passes.{behind_all, EachChanges}
use Rattle.qv_rewrite_lists.specs.declared.rewriting.Rewritten.{Rewritten}

-- terms of the store without quantifiers
pub record AreFormulas (trees : List Tree) (ids : List ℕ) : Type 0 where
  pub below : All (λ id. id < length trees) ids
  pub free : All (λ id. IsQuantifierFree (tree_at trees id)) ids

-- the list is behind passes that came to those noted before, each of which changed it
pub record IsFurther (old new : List Tree) (before after : Rewritten) : Type 0 where
  pub grows : Grows old new
  pub formulas : AreFormulas new after.list.items
  pub more : List Pass
  pub passes : after.passes.items ≡ before.passes.items ++ more
  pub list : named new after.list.items ≡ behind_all more (named old before.list.items)
  pub changes : EachChanges more (named old before.list.items)
