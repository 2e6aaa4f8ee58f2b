-- The nodes of a tree that are new behind those seen before.
use Rattle.std.proofs.Common.{◌≡◌, Bool, true, false, cond, List, [], ◌∷◌, ◌++◌, refl, ap, ◌∙◌, append_assoc}
use Rattle.std.specs.List.{AllByRecursion}
use Rattle.qv_words.specs.Tree.{Tree, Trees, Constant, Variable, Literal, Apply, ForAll, Exists, Nil, Cons, IsQuantifierFree, AreQuantifierFree}
use Rattle.qv_words.specs.Clauses.{is_among, with_nodes, with_nodes_of}

-- the nodes of a tree without quantifiers that are new
abbrev pub New : List Tree → List Tree → Type 0
New found seen = (rest : List Tree) × (found ≡ seen ++ rest) × AllByRecursion IsQuantifierFree rest

pub nil-behind : {A : Type 0} (xs : List A) → xs ≡ xs ++ []
nil-behind [] = refl
nil-behind (x ∷ xs) = ap (λ ys. x ∷ ys) (nil-behind xs)

pub both-free : (xs ys : List Tree) → AllByRecursion IsQuantifierFree xs → AllByRecursion IsQuantifierFree ys → AllByRecursion IsQuantifierFree (xs ++ ys)
both-free [] ys f g = g
both-free (x ∷ xs) ys f g = (f.0, both-free xs ys f.1 g)

one-new : (seen found : List Tree) (t : Tree) → IsQuantifierFree t → New found seen → New (cond (is_among seen t) seen (found ++ t ∷ [])) seen
one-new seen found t h rest = go (is_among seen t)
  where
    go : (b : Bool) → New (cond b seen (found ++ t ∷ [])) seen
    go true = ([], nil-behind seen, tt)
    go false = (rest.0 ++ t ∷ [], ap (λ us. us ++ t ∷ []) rest.1 ∙ append_assoc seen rest.0 (t ∷ []), both-free rest.0 (t ∷ []) rest.2 (h, tt))

nothing-new : (seen : List Tree) → New seen seen
nothing-new seen = ([], nil-behind seen, tt)

mutual
  pub tree-new : (seen : List Tree) (t : Tree) → IsQuantifierFree t → New (with_nodes seen t) seen
  tree-new seen (Constant i s) h = one-new seen seen (Constant i s) h (nothing-new seen)
  tree-new seen (Variable l s) h = one-new seen seen (Variable l s) h (nothing-new seen)
  tree-new seen (Literal s n) h = one-new seen seen (Literal s n) h (nothing-new seen)
  tree-new seen (Apply o ts) h = one-new seen (with_nodes_of seen ts) (Apply o ts) h (each-new seen ts h)
  tree-new seen (ForAll l s t) h = absurd h
  tree-new seen (Exists l s t) h = absurd h

  each-new : (seen : List Tree) (ts : Trees) → AreQuantifierFree ts → New (with_nodes_of seen ts) seen
  each-new seen Nil h = nothing-new seen
  each-new seen (Cons t ts) h =
      let first = tree-new seen t h.0 in
      let others = each-new (with_nodes seen t) ts h.1 in
      (first.0 ++ others.0, others.1 ∙ ap (λ us. us ++ others.0) first.1 ∙ append_assoc seen first.0 others.0, both-free first.0 others.0 first.2 others.2)
