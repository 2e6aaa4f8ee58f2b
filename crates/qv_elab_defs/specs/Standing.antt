-- How deep variables stand below trees.
use Rattle.std.specs.Prelude.{ℕ, suc, ◌==◌, max, if◌then◌else◌, option_map, Option, Some, None}
use Rattle.qv_words.specs.Tree.{Tree, Trees, Constant, Variable, Literal, Apply, ForAll, Exists, Nil, Cons}

-- the greater of two depths that may be there
abbrev pub deeper : Option ℕ → Option ℕ → Option ℕ
deeper None p = p
deeper (Some n) None = Some n
deeper (Some n) (Some m) = Some (max n m)

-- the greatest depth at which the variable of this level stands in a tree, if it does
abbrev mutual
  pub standing : ℕ → Tree → Option ℕ
  standing l (Constant i s) = None
  standing l (Variable k s) = if k == l then Some 0 else None
  standing l (Literal s n) = None
  standing l (Apply o ts) = option_map (λ n. suc n) (standing_in l ts)
  standing l (ForAll k s body) = option_map (λ n. suc n) (standing l body)
  standing l (Exists k s body) = option_map (λ n. suc n) (standing l body)

  pub standing_in : ℕ → Trees → Option ℕ
  standing_in l Nil = None
  standing_in l (Cons t ts) = deeper (standing l t) (standing_in l ts)
