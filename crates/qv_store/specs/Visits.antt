-- What is left of a walk: terms to be entered, and terms to be left behind their children.
use Rattle.std.specs.Prelude.{◌≡◌, ℕ, suc, ◌+◌, ◌<◌, false, List, [], ◌∷◌, ◌++◌, length, if◌then◌else◌}
use Rattle.qv_words.specs.Tree.{Tree, Trees, Constant, Variable, Literal, Apply, ForAll, Exists, Nil, Cons}
use Rattle.qv_words.specs.Clauses.{is_among}
use Rattle.qv_store.specs.declared.walk.Visit.{Visit}
use Rattle.qv_store.specs.declared.walk.Visit.TheVariants.{Enter, Leave}
use Rattle.qv_store.specs.Nodes.{tree_at}
use Rattle.qv_store.specs.Stores.{AreBelow, AreShared, children_of}
use Rattle.qv_store.specs.Walks.{with_subtrees, named, IsWalk}

-- the subtrees that are seen in the end
unfoldable pub seen_after : List Tree → List Tree → List Visit → List Tree
seen_after trees seen [] = seen
seen_after trees seen (Enter n ∷ todo) = seen_after trees (with_subtrees seen (tree_at trees n)) todo
seen_after trees seen (Leave n ∷ todo) = seen_after trees (seen ++ tree_at trees n ∷ []) todo

-- how many steps a tree takes behind those seen before: one where it is seen, and otherwise one to
-- enter it, those of its children, and one to leave it
abbrev mutual
  pub steps : List Tree → Tree → ℕ
  steps seen (Constant i s) = if is_among seen (Constant i s) then 1 else 2
  steps seen (Variable l s) = if is_among seen (Variable l s) then 1 else 2
  steps seen (Literal s n) = if is_among seen (Literal s n) then 1 else 2
  steps seen (Apply o args) = if is_among seen (Apply o args) then 1 else 2 + steps_of seen args
  steps seen (ForAll l s body) = if is_among seen (ForAll l s body) then 1 else 2 + steps seen body
  steps seen (Exists l s body) = if is_among seen (Exists l s body) then 1 else 2 + steps seen body

  pub steps_of : List Tree → Trees → ℕ
  steps_of seen Nil = 0
  steps_of seen (Cons t ts) = steps seen t + steps_of (with_subtrees seen t) ts

unfoldable pub steps_left : List Tree → List Tree → List Visit → ℕ
steps_left trees seen [] = 0
steps_left trees seen (Enter n ∷ todo) = steps seen (tree_at trees n) + steps_left trees (with_subtrees seen (tree_at trees n)) todo
steps_left trees seen (Leave n ∷ todo) = suc (steps_left trees (seen ++ tree_at trees n ∷ []) todo)

-- each number is one of the store, and a term that is left then is new, behind its children
unfoldable pub AreReady : List Tree → List Tree → List Visit → Type 0
AreReady trees seen [] = Unit {0}
AreReady trees seen (Enter n ∷ todo) = (n < length trees) × AreReady trees (with_subtrees seen (tree_at trees n)) todo
AreReady trees seen (Leave n ∷ todo) =
    (n < length trees) × AreBelow seen (length seen) (children_of (tree_at trees n)) × (is_among seen (tree_at trees n) ≡ false)
    × AreReady trees (seen ++ tree_at trees n ∷ []) todo

-- the state of a walk
pub record IsVisiting (trees : List Tree) (met : List ℕ) (todo : List Visit) : Type 0 where
  pub store : AreShared trees
  pub walk : IsWalk trees met
  pub ready : AreReady trees (named trees met) todo

-- one step leads to the same end
pub record IsStep (trees : List Tree) (met : List ℕ) (todo : List Visit) (met' : List ℕ) (todo' : List Visit) : Type 0 where
  pub visiting : IsVisiting trees met' todo'
  pub end : seen_after trees (named trees met') todo' ≡ seen_after trees (named trees met) todo
  pub fewer : steps_left trees (named trees met') todo' < steps_left trees (named trees met) todo
