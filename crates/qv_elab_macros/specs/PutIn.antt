-- A definition's body with arguments put in, term by term.
use Rattle.std.specs.Prelude.{◌≡◌, ℕ, ◌<◌, ◌+◌, nat_lt, ◌||◌, Bool, false, Option, Some, None, List, [], ◌∷◌, All, slice_get, length}
use Rattle.std.specs.List.{AllZip}
use Rattle.qv_words.specs.Word.{word_sort, word_value}
use Rattle.qv_words.specs.Tree.{Tree, Trees, Constant, Variable, Literal, Apply, ForAll, Exists}
use Rattle.qv_words.specs.Sorted.{IsSorted}
use Rattle.qv_store.specs.declared.node.Node.{Node}
use Rattle.qv_store.specs.declared.node.Node.TheVariants.{Const, Var, Lit, App, Ex}
use Rattle.qv_store.specs.declared.node.Node.TheVariants.{All as AllNode}
use Rattle.qv_store.specs.Nodes.{tree_at, trees_at, children, node_tree}
use Rattle.qv_store.specs.Stores.{StandsAt}
use Rattle.qv_store.specs.Walks.{IsWalk, IsFound, named}
use Rattle.qv_store.specs.Replacing.{first_of}
use Rattle.qv_elab_defs.specs.Applying.{depth_of, depth_limit}
use Rattle.qv_elab_defs.specs.Putting.{moved_level, put_in}

-- a tree with the trees of these numbers put in
abbrev pub with_args : List Tree → ℕ → List ℕ → Tree → Tree
with_args trees binders args t = put_in (length args) binders (named trees args) t

-- the argument that a node stands for
abbrev pub arg_for : List ℕ → Node → Option ℕ
arg_for args (Var l s) = slice_get args l
arg_for args _ = None

-- a node's top over other trees, with its level moved
abbrev pub moved_top : ℕ → ℕ → Node → Trees → Tree
moved_top k binders (Const i s) ts = Constant i s
moved_top k binders (Var l s) ts = Variable (moved_level k binders l) s
moved_top k binders (Lit w) ts = Literal (word_sort w) (word_value w)
moved_top k binders (App o kids) ts = Apply o ts
moved_top k binders (AllNode l s body) ts = ForAll (moved_level k binders l) s (first_of ts)
moved_top k binders (Ex l s body) ts = Exists (moved_level k binders l) s (first_of ts)

-- a node with what was made of its children, and its level moved
pub record IsMoved (k binders : ℕ) (ids made : List ℕ) (node new : Node) : Type 0 where
  pub found : AllZip (IsFound ids made) (children node) (children new)
  pub tree : (trees : List Tree) → node_tree trees new ≡ moved_top k binders node (trees_at trees (children new))

-- what was made of the first terms of a walk
abbrev pub ArePut : List Tree → (Tree → Tree) → (ℕ → Tree) → List ℕ → List ℕ → Type 0
ArePut trees put tree ids made = (k n m : ℕ) → slice_get ids k ≡ Some n → slice_get made k ≡ Some m → StandsAt trees m (put (tree n))

-- the next term of a walk, over what was made of those before
pub record IsNextIn (trees : List Tree) (binders : ℕ) (args ids made : List ℕ) (n : ℕ) : Type 0 where
  pub walk : IsWalk trees ids
  pub at : slice_get ids (length made) ≡ Some n
  pub made_before : ArePut trees (with_args trees binders args) (tree_at trees) ids made
  pub args_there : All (λ arg. arg < length trees) args
  pub sorted : IsSorted (with_args trees binders args (tree_at trees n))

-- whether some tree is too deep at its depth
abbrev pub some_too_deep : List Tree → List ℕ → Bool
some_too_deep [] ds = false
some_too_deep (t ∷ ts) [] = false
some_too_deep (t ∷ ts) (d ∷ ds) = nat_lt depth_limit (depth_of t + d) || some_too_deep ts ds
