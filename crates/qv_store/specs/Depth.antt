-- How deep a tree is.
use Rattle.std.specs.Prelude.{ℕ, ◌+◌, max}
use Rattle.qv_words.specs.Tree.{Tree, Trees, Constant, Variable, Literal, Apply, ForAll, Exists, Nil, Cons}

-- the depth of a tree: 1 for a leaf, and otherwise one more than its deepest child
abbrev mutual
  pub depth_of : Tree → ℕ
  depth_of (Constant i s) = 1
  depth_of (Variable l s) = 1
  depth_of (Literal s n) = 1
  depth_of (Apply o args) = 1 + depth_of_all args
  depth_of (ForAll l s body) = 1 + depth_of body
  depth_of (Exists l s body) = 1 + depth_of body

  pub depth_of_all : Trees → ℕ
  depth_of_all Nil = 0
  depth_of_all (Cons t ts) = max (depth_of t) (depth_of_all ts)
