-- Terms as plain trees.
use Rattle.std.specs.Prelude.{ℕ, Option, option_and_then, option_map, slice_get, List, [], ◌∷◌}
use Rattle.qv_words.specs.Word.{word_sort, word_value}
use Rattle.qv_words.specs.Tree.{Tree, Trees, Constant, Variable, Literal, Apply, ForAll, Exists, Nil, Cons}
use Rattle.qv_terms.specs.declared.term.Term.{Term, Const, Var, Lit, App', All', Ex', Row_of-Term, end_of-Term, more_of-Term}

-- the tree of a term, and the trees of a list of terms
abbrev mutual
  pub tree : Term → Tree
  tree (Const i s) = Constant i s
  tree (Var l s) = Variable l s
  tree (Lit w) = Literal (word_sort w) (word_value w)
  tree (App' o shape kids) = Apply o (row_trees kids)
  tree (All' l s place body) = ForAll l s (tree body)
  tree (Ex' l s place body) = Exists l s (tree body)

  pub row_trees : {n : _} → Row_of-Term n → Trees
  row_trees end_of-Term = Nil
  row_trees (more_of-Term t rest) = Cons (tree t) (row_trees rest)

-- the same of a list
abbrev pub trees : List Term → Trees
trees [] = Nil
trees (t ∷ ts) = Cons (tree t) (trees ts)

-- the trees that terms stand for, each at its level
abbrev pub trees_by_level : List (Option Term) → ℕ → Option Tree
trees_by_level terms l = option_and_then (option_map tree) (slice_get terms l)
