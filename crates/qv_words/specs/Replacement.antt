-- Trees put in the place of variables.
use Rattle.std.specs.Prelude.{◌≡◌, ℕ, Option, Some, IfSome, IsSomeAnd, MatchOption, List, All, unwrap_or}
use Rattle.qv_words.specs.Tree.{Tree, Trees, Constant, Variable, Literal, Apply, ForAll, Exists, Nil, Cons, tree_sort}
use Rattle.qv_words.specs.Sorted.{IsSorted, free_levels}
use Rattle.qv_words.specs.Meaning.{Means}

-- the tree with each variable whose level has a tree in b replaced by it: used on trees without
-- quantifiers, so that nothing is caught
abbrev mutual
  pub replaced : (ℕ → Option Tree) → Tree → Tree
  replaced b (Constant i s) = Constant i s
  replaced b (Variable l s) = unwrap_or (b l) (Variable l s)
  replaced b (Literal s n) = Literal s n
  replaced b (Apply o args) = Apply o (replaced_each b args)
  replaced b (ForAll l s body) = ForAll l s (replaced b body)
  replaced b (Exists l s body) = Exists l s (replaced b body)

  -- the same of each tree of a list
  pub replaced_each : (ℕ → Option Tree) → Trees → Trees
  replaced_each b Nil = Nil
  replaced_each b (Cons t ts) = Cons (replaced b t) (replaced_each b ts)

-- a tree that is put in for a variable has the variable's sort
abbrev pub HasTheirSorts : (ℕ → Option Tree) → Tree → Type 0
HasTheirSorts b t = All (λ leaf. IfSome (b leaf.0) (λ put. tree_sort put ≡ Some leaf.1)) (free_levels t)

-- a tree that is put in for a variable is sorted
abbrev pub AreSortedPut : (ℕ → Option Tree) → Tree → Type 0
AreSortedPut b t = All (λ leaf. IfSome (b leaf.0) IsSorted) (free_levels t)

-- at each variable of the tree f has what the tree put in for it means, or what e has
abbrev pub TakesMeanings : List ℕ → (ℕ → Option Tree) → (ℕ → Option ℕ) → (ℕ → Option ℕ) → Tree → Type 0
TakesMeanings c b e f t = All (λ leaf. MatchOption (b leaf.0) (f leaf.0 ≡ e leaf.0) (λ put. IsSomeAnd (f leaf.0) (λ v. Means c e put v))) (free_levels t)
