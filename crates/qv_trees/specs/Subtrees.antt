-- The distinct subtrees of several trees.
use Rattle.std.specs.Prelude.{List, [], ◌∷◌}
use Rattle.qv_words.specs.Tree.{Tree}
use Rattle.qv_store.specs.Walks.{with_subtrees}

-- those of each tree in turn, behind those seen before
abbrev pub subtrees_behind : List Tree → List Tree → List Tree
subtrees_behind seen [] = seen
subtrees_behind seen (t ∷ ts) = subtrees_behind (with_subtrees seen t) ts

-- in post-order of first appearance, those below quantifiers too
abbrev pub subtrees_of : List Tree → List Tree
subtrees_of trees = subtrees_behind [] trees
