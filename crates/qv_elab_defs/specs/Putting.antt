-- Trees put in for the parameters of a definition's body.
use Rattle.std.specs.Prelude.{ℕ, ◌+◌, ◌-◌, nat_lt, if◌then◌else◌, unwrap_or, List, slice_get}
use Rattle.qv_words.specs.Tree.{Tree, Trees, Constant, Variable, Literal, Apply, ForAll, Exists, Nil, Cons}

-- a level of a body of k parameters, where so many binders are open at the use
abbrev pub moved_level : ℕ → ℕ → ℕ → ℕ
moved_level k binders level = level - k + binders

-- the body of k parameters with these trees put in for them, and its other levels moved
abbrev mutual
  pub put_in : ℕ → ℕ → List Tree → Tree → Tree
  put_in k binders args (Constant i s) = Constant i s
  put_in k binders args (Variable l s) =
      if nat_lt l k then unwrap_or (slice_get args l) (Variable l s) else Variable (moved_level k binders l) s
  put_in k binders args (Literal s n) = Literal s n
  put_in k binders args (Apply o ts) = Apply o (put_in_each k binders args ts)
  put_in k binders args (ForAll l s body) = ForAll (moved_level k binders l) s (put_in k binders args body)
  put_in k binders args (Exists l s body) = Exists (moved_level k binders l) s (put_in k binders args body)

  pub put_in_each : ℕ → ℕ → List Tree → Trees → Trees
  put_in_each k binders args Nil = Nil
  put_in_each k binders args (Cons t ts) = Cons (put_in k binders args t) (put_in_each k binders args ts)
