-- Stores: the list of their trees, by number.
use Rattle.std.specs.Prelude.{◌≡◌, ℕ, ◌<◌, List, [], ◌∷◌, ◌++◌, length, if◌then◌else◌}
use Rattle.qv_words.specs.Tree.{Tree, Trees, Constant, Variable, Literal, Apply, ForAll, Exists, Nil, Cons}
use Rattle.qv_words.specs.Sorted.{IsSorted}
use Rattle.qv_words.specs.Clauses.{is_among}
use Rattle.qv_store.specs.Nodes.{tree_at}

-- this tree stands at this number
pub record StandsAt (trees : List Tree) (n : ℕ) (t : Tree) : Type 0 where
  pub below : n < length trees
  pub tree : tree_at trees n ≡ t

-- a store with one tree more, behind the others unless it is there
abbrev pub with_tree : List Tree → Tree → List Tree
with_tree trees t = if is_among trees t then trees else trees ++ t ∷ []

-- the trees that were there keep their numbers
pub record Grows (old new : List Tree) : Type 0 where
  pub more : List Tree
  pub behind : new ≡ old ++ more

-- each of a list of trees stands below this number
abbrev pub AreBelow : List Tree → ℕ → Trees → Type 0
AreBelow trees n Nil = Unit {0}
AreBelow trees n (Cons t ts) = ((m : ℕ) × (m < n) × StandsAt trees m t) × AreBelow trees n ts

-- the children of a tree
abbrev pub children_of : Tree → Trees
children_of (Constant i s) = Nil
children_of (Variable l s) = Nil
children_of (Literal s n) = Nil
children_of (Apply o args) = args
children_of (ForAll l s body) = Cons body Nil
children_of (Exists l s body) = Cons body Nil

-- the trees of a store: each is sorted, stands at one number, and has its children at smaller ones
pub record AreShared (trees : List Tree) : Type 0 where
  pub sorted : (n : ℕ) → n < length trees → IsSorted (tree_at trees n)
  pub once : (m n : ℕ) → m < length trees → n < length trees → tree_at trees m ≡ tree_at trees n → m ≡ n
  pub children : (n : ℕ) → n < length trees → AreBelow trees n (children_of (tree_at trees n))
