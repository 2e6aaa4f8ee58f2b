-- Terms put in for variables.
use Rattle.std.specs.Prelude.{◌≡◌, ℕ, ◌<◌, Option, Some, None, option_and_then, option_map, List, slice_get, length}
use Rattle.std.specs.List.{AllZip}
use Rattle.qv_words.specs.declared.sort.Sort.TheVariants.{Bool}
use Rattle.qv_words.specs.Word.{word_sort, word_value}
use Rattle.qv_words.specs.Tree.{Tree, Trees, Constant, Variable, Literal, Apply, ForAll, Exists, Nil, Cons, IsQuantifierFree}
use Rattle.qv_words.specs.Replacement.{replaced, HasTheirSorts}
use Rattle.qv_store.specs.declared.node.Node.{Node}
use Rattle.qv_store.specs.declared.node.Node.TheVariants.{Const, Var, Lit, App, Ex}
use Rattle.qv_store.specs.declared.node.Node.TheVariants.{All as AllNode}
use Rattle.qv_store.specs.Nodes.{tree_at, trees_at, children, node_tree}
use Rattle.qv_store.specs.Stores.{StandsAt}
use Rattle.qv_store.specs.Walks.{IsWalk, IsFound}

-- the term that is put in for a level
abbrev pub term_of_level : List (Option ℕ) → ℕ → Option ℕ
term_of_level terms l = option_and_then (λ held. held) (slice_get terms l)

-- its tree
abbrev pub put_by_level : List Tree → List (Option ℕ) → ℕ → Option Tree
put_by_level trees terms l = option_map (tree_at trees) (term_of_level terms l)

-- the terms that are put in are terms of the store
abbrev pub AreTermsOf : List Tree → List (Option ℕ) → Type 0
AreTermsOf trees terms = (l n : ℕ) → term_of_level terms l ≡ Some n → n < length trees

-- the term that is put in for a node
abbrev pub put_for : List (Option ℕ) → Node → Option ℕ
put_for terms (Const i s) = None
put_for terms (Var l s) = term_of_level terms l
put_for terms (Lit w) = None
put_for terms (App o kids) = None
put_for terms (AllNode l s body) = None
put_for terms (Ex l s body) = None

-- the first of some trees
abbrev pub first_of : Trees → Tree
first_of Nil = Literal Bool 0
first_of (Cons t ts) = t

-- a node's top over other trees
abbrev pub top_over : Node → Trees → Tree
top_over (Const i s) args = Constant i s
top_over (Var l s) args = Variable l s
top_over (Lit w) args = Literal (word_sort w) (word_value w)
top_over (App o kids) args = Apply o args
top_over (AllNode l s body) args = ForAll l s (first_of args)
top_over (Ex l s body) args = Exists l s (first_of args)

-- a node with what was made of its children
pub record IsRenewed (ids made : List ℕ) (node new : Node) : Type 0 where
  pub found : AllZip (IsFound ids made) (children node) (children new)
  pub tree : (trees : List Tree) → node_tree trees new ≡ top_over node (trees_at trees (children new))

-- what was made of the first terms of a walk
abbrev pub AreMade : List Tree → (ℕ → Option Tree) → (ℕ → Tree) → List ℕ → List ℕ → Type 0
AreMade trees put tree ids made = (k n m : ℕ) → slice_get ids k ≡ Some n → slice_get made k ≡ Some m → StandsAt trees m (replaced put (tree n))

-- a tree in which terms may be put
pub record IsReplaceable (put : ℕ → Option Tree) (t : Tree) : Type 0 where
  pub quantifier_free : IsQuantifierFree t
  pub sorts : HasTheirSorts put t

-- the next term of a walk, over what was made of those before
pub record IsNextPut (trees : List Tree) (ids made : List ℕ) (terms : List (Option ℕ)) (n : ℕ) : Type 0 where
  pub walk : IsWalk trees ids
  pub at : slice_get ids (length made) ≡ Some n
  pub made_before : AreMade trees (put_by_level trees terms) (tree_at trees) ids made
  pub terms_there : AreTermsOf trees terms
  pub replaceable : IsReplaceable (put_by_level trees terms) (tree_at trees n)
