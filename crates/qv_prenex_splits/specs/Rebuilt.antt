-- Trees with others put in above their quantifiers.
use Rattle.std.specs.Prelude.{◌≡◌, ℕ, Option, None, Some, IsSomeAnd, unwrap_or, List}
use Rattle.qv_words.specs.Tree.{Tree, Trees, Constant, Variable, Literal, Apply, ForAll, Exists, Nil, Cons}
use Rattle.qv_store.specs.Stores.{StandsAt}

-- a tree in which each subtree for which something is put is replaced by it; what stands below it
-- or below a quantifier stays
abbrev mutual
  pub rebuilt : (Tree → Option Tree) → Tree → Tree
  rebuilt top (Constant i s) = unwrap_or (top (Constant i s)) (Constant i s)
  rebuilt top (Variable l s) = unwrap_or (top (Variable l s)) (Variable l s)
  rebuilt top (Literal s n) = unwrap_or (top (Literal s n)) (Literal s n)
  rebuilt top (Apply o args) = unwrap_or (top (Apply o args)) (Apply o (rebuilt_each top args))
  rebuilt top (ForAll l s body) = unwrap_or (top (ForAll l s body)) (ForAll l s body)
  rebuilt top (Exists l s body) = unwrap_or (top (Exists l s body)) (Exists l s body)

  pub rebuilt_each : (Tree → Option Tree) → Trees → Trees
  rebuilt_each top Nil = Nil
  rebuilt_each top (Cons t ts) = Cons (rebuilt top t) (rebuilt_each top ts)

-- a term of the store is what is put, if anything is
abbrev pub IsPutAt : List Tree → Option Tree → Option ℕ → Type 0
IsPutAt trees None put = put ≡ None
IsPutAt trees (Some t) put = IsSomeAnd put (λ n. StandsAt trees n t)
