-- Walks: the terms below others, each once, children first.
use Rattle.std.specs.Prelude.{◌≡◌, ℕ, ◌<◌, List, [], ◌∷◌, ◌++◌, All, map, length, Some, slice_get, if◌then◌else◌}
use Rattle.qv_words.specs.Tree.{Tree, Trees, Constant, Variable, Literal, Apply, ForAll, Exists, Nil, Cons}
use Rattle.qv_words.specs.Clauses.{is_among}
use Rattle.qv_store.specs.Nodes.{tree_at}
use Rattle.qv_store.specs.Stores.{AreShared}

-- the distinct subtrees of a tree behind those seen before, in post-order of first appearance,
-- those below quantifiers too
abbrev mutual
  pub with_subtrees : List Tree → Tree → List Tree
  with_subtrees seen (Constant i s) = if is_among seen (Constant i s) then seen else seen ++ Constant i s ∷ []
  with_subtrees seen (Variable l s) = if is_among seen (Variable l s) then seen else seen ++ Variable l s ∷ []
  with_subtrees seen (Literal s n) = if is_among seen (Literal s n) then seen else seen ++ Literal s n ∷ []
  with_subtrees seen (Apply o args) = if is_among seen (Apply o args) then seen else with_subtrees_of seen args ++ Apply o args ∷ []
  with_subtrees seen (ForAll l s body) = if is_among seen (ForAll l s body) then seen else with_subtrees seen body ++ ForAll l s body ∷ []
  with_subtrees seen (Exists l s body) = if is_among seen (Exists l s body) then seen else with_subtrees seen body ++ Exists l s body ∷ []

  -- the same of each tree of a list
  pub with_subtrees_of : List Tree → Trees → List Tree
  with_subtrees_of seen Nil = seen
  with_subtrees_of seen (Cons t ts) = with_subtrees_of (with_subtrees seen t) ts

-- the trees of numbers
abbrev pub named : List Tree → List ℕ → List Tree
named trees = map (tree_at trees)

-- a walk in a store: its trees are those of a store of their own, in which each stands once, behind
-- its children
pub record IsWalk (trees : List Tree) (ids : List ℕ) : Type 0 where
  pub within : All (λ n. n < length trees) ids
  pub shared : AreShared (named trees ids)

-- more is behind
pub record IsBehind (old new : List ℕ) : Type 0 where
  pub more : List ℕ
  pub behind : new ≡ old ++ more

-- a term is among the first n of a walk
pub record IsEarlier (ids : List ℕ) (n : ℕ) (id : ℕ) : Type 0 where
  pub place : ℕ
  pub before : place < n
  pub at : slice_get ids place ≡ Some id

-- what stands at a term's place in a list beside a walk
pub record IsFound {R : Type 0} (ids : List ℕ) (results : List R) (id : ℕ) (result : R) : Type 0 where
  pub place : ℕ
  pub at : slice_get ids place ≡ Some id
  pub found : slice_get results place ≡ Some result
