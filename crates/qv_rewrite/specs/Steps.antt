-- The steps of a sweep over the terms of a store.
use Rattle.std.specs.Prelude.{◌≡◌, ℕ, ◌<◌, Some, None, List, [], ◌∷◌, length, nat_eq}
use Rattle.std.specs.HashMap.{get, HashMap}
use Rattle.std.specs.declared.hash.FoldHasher.{FoldHasher}
use Rattle.std.specs.declared.hash.BuildHasherDefault.{BuildHasherDefault}
use Rattle.qv_words.specs.declared.op.Op.{Op}
use Rattle.qv_words.specs.Tree.{Tree, Apply, IsQuantifierFree}
use Rattle.qv_store.specs.declared.node.Node.{Node}
use Rattle.qv_store.specs.Nodes.{tree_at, trees_at, children, node_tree}
use Rattle.qv_store.specs.Stores.{StandsAt}
use Rattle.qv_rewrite.specs.declared.steps.Step.{Step}
use Rattle.qv_rewrite.specs.declared.steps.Step.TheVariants.{Made, First}
use Rattle.qv_rewrite.specs.declared.steps.Found.{Found}
use Rattle.qv_rewrite.specs.declared.steps.Found.TheVariants.{Leaf, Missing, Ready}
use Rattle.qv_rewrite.specs.declared.rewriting.Rewriting.{Rewriting}
use Rattle.qv_rewrite.specs.Sweep.{swept}
use Rattle.qv_rewrite.specs.declared.args.Args.{Args}
use Rattle.qv_rewrite.specs.Made.{numbers_of}

-- the node of an operator's application to arguments
pub record IsNodeOf (args : Args) (op : Op) (node : Node) : Type 0 where
  pub children_are : children node ≡ numbers_of args
  pub tree : (trees : List Tree) → node_tree trees node ≡ Apply op (trees_at trees (numbers_of args))

-- what was made of terms, by their numbers
abbrev pub MadeMap : Type 0
MadeMap = HashMap ℕ ℕ (BuildHasherDefault FoldHasher)

-- each is the term that a sweep makes
pub record AreSwept (rules : Rewriting) (trees : List Tree) (made : MadeMap) : Type 0 where
  pub below : (k m : ℕ) → get nat_eq made k ≡ Some m → k < length trees
  pub stands : (k m : ℕ) → get nat_eq made k ≡ Some m → StandsAt trees m (swept rules (tree_at trees k))

-- these were made of those
abbrev pub AreMadeOf : MadeMap → List ℕ → List ℕ → Type 0
AreMadeOf made [] [] = Unit {0}
AreMadeOf made (k ∷ ks) (m ∷ ms) = (get nat_eq made k ≡ Some m) × AreMadeOf made ks ms
AreMadeOf made _ _ = ⊥

-- a term below another without quantifiers, of which nothing was made yet
pub record IsMissing (trees : List Tree) (made : MadeMap) (id kid : ℕ) : Type 0 where
  pub below : kid < id
  pub free : IsQuantifierFree (tree_at trees kid)
  pub missing : get nat_eq made kid ≡ None

-- an application all of whose arguments were made
pub record IsReady (trees : List Tree) (made : MadeMap) (id : ℕ) (tree : List ℕ → Tree) (numbers : List ℕ) : Type 0 where
  pub kids : List ℕ
  pub tree_is : tree_at trees id ≡ tree kids
  pub made_of : AreMadeOf made kids numbers

-- a tree that is no application
abbrev pub IsLeaf : Tree → Type 0
IsLeaf (Apply o args) = ⊥
IsLeaf _ = Unit {0}

-- what a term is to a sweep
abbrev pub Finds : List Tree → MadeMap → ℕ → Found → Type 0
Finds trees made id Leaf = IsLeaf (tree_at trees id)
Finds trees made id (Missing kid) = IsMissing trees made id kid
Finds trees made id (Ready op args) = IsReady trees made id (λ kids. Apply op (trees_at trees kids)) (numbers_of args)

-- what is made of it, or what has to be made first
abbrev pub Steps : Rewriting → (old new : List Tree) → MadeMap → ℕ → Step → Type 0
Steps rules old new made id (Made m) = StandsAt new m (swept rules (tree_at old id))
Steps rules old new made id (First kid) = IsMissing old made id kid
