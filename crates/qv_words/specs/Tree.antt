-- Terms as plain trees: the standard's terms after let, definitions and lists of binders are
-- unfolded.
use Rattle.std.specs.Prelude.{ℕ, Option, Some, None, option_and_then, option_map, List, [], ◌∷◌, if◌then◌else◌}
use Rattle.qv_words.specs.declared.sort.Sort.{Sort}
use Rattle.qv_words.specs.declared.sort.Sort.TheVariants.{Bool}
use Rattle.qv_words.specs.declared.op.Op.{Op}
use Rattle.qv_words.specs.Rank.{sort_eq, result_sort}

-- a free constant by its index, a variable by its level, a literal by its value, an operator's
-- application, and a quantifier over the variable of a level
mutual
  pub data Tree : Type 0 where
    Constant : (index : ℕ) → (s : Sort) → Tree
    Variable : (level : ℕ) → (s : Sort) → Tree
    Literal : (s : Sort) → (value : ℕ) → Tree
    Apply : (o : Op) → (args : Trees) → Tree
    ForAll : (level : ℕ) → (s : Sort) → (body : Tree) → Tree
    Exists : (level : ℕ) → (s : Sort) → (body : Tree) → Tree

  -- a list of trees
  pub data Trees : Type 0 where
    Nil : Trees
    Cons : (first : Tree) → (rest : Trees) → Trees

-- the sort of a quantified formula: Bool, where its body is
abbrev pub closed_sort : Option Sort → Option Sort
closed_sort body = option_and_then (λ s. if sort_eq s Bool then Some Bool else None) body

-- the sort of a tree, or nothing where an application has no rank or a quantifier's body isn't Bool
abbrev mutual
  pub tree_sort : Tree → Option Sort
  tree_sort (Constant i s) = Some s
  tree_sort (Variable l s) = Some s
  tree_sort (Literal s n) = Some s
  tree_sort (Apply o args) = option_and_then (result_sort o) (tree_sorts args)
  tree_sort (ForAll l s body) = closed_sort (tree_sort body)
  tree_sort (Exists l s body) = closed_sort (tree_sort body)

  -- the sorts of a list's trees
  pub tree_sorts : Trees → Option (List Sort)
  tree_sorts Nil = Some []
  tree_sorts (Cons t ts) = option_and_then (λ s. option_map (λ sorts. s ∷ sorts) (tree_sorts ts)) (tree_sort t)

-- no quantifier stands in a tree
abbrev mutual
  pub IsQuantifierFree : Tree → Type 0
  IsQuantifierFree (Constant i s) = Unit {0}
  IsQuantifierFree (Variable l s) = Unit {0}
  IsQuantifierFree (Literal s n) = Unit {0}
  IsQuantifierFree (Apply o args) = AreQuantifierFree args
  IsQuantifierFree (ForAll l s body) = ⊥
  IsQuantifierFree (Exists l s body) = ⊥

  -- nor in any of a list
  pub AreQuantifierFree : Trees → Type 0
  AreQuantifierFree Nil = Unit {0}
  AreQuantifierFree (Cons t ts) = IsQuantifierFree t × AreQuantifierFree ts
