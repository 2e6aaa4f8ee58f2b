-- Boxed trees and the trees of a store.
use Rattle.std.proofs.Common.{◌≡◌, ℕ, ◌+◌, ◌<◌, List, [], ◌∷◌, ◌++◌, length, take, get_or, refl, ap, sym, ◌∙◌, arith}
use Rattle.std.proofs.lemmas.List.{take_more}
use Rattle.qv_words.specs.Tree.{Tree, Trees, Nil, Cons}
use Rattle.qv_terms.specs.declared.term.Term.{Term}
use Rattle.qv_terms.specs.View.{tree, trees}
use Rattle.qv_store.specs.Nodes.{tree_at, trees_at}

-- trees behind others
abbrev pub then : Trees → Trees → Trees
then Nil us = us
then (Cons t ts) us = Cons t (then ts us)

trees-append : (ts us : List Term) → trees (ts ++ us) ≡ then (trees ts) (trees us)
trees-append [] us = refl
trees-append (t ∷ ts) us = ap (Cons (tree t)) (trees-append ts us)

pub trees_at-append : (store : List Tree) (ks ls : List ℕ) → trees_at store (ks ++ ls) ≡ then (trees_at store ks) (trees_at store ls)
trees_at-append store [] ls = refl
trees_at-append store (k ∷ ks) ls = ap (Cons (tree_at store k)) (trees_at-append store ks ls)

-- one child more is grown
pub grown-push : (store : List Tree) (grown : List Term) (kids : List ℕ) (i kid : ℕ) (t : Term) → trees grown ≡ trees_at store (take i kids) → i < length kids → kid ≡ get_or kids i kid → tree t ≡ tree_at store kid
    → trees (grown ++ t ∷ []) ≡ trees_at store (take (i + 1) kids)
grown-push store grown kids i kid t so h at own =
    let next : take (i + 1) kids ≡ take i kids ++ kid ∷ [] = take_more kids i kid h ∙ ap (λ k. take i kids ++ k ∷ []) (sym at) in
    trees-append grown (t ∷ []) ∙ ap (λ us. then us (Cons (tree t) Nil)) so ∙ ap (λ u. then (trees_at store (take i kids)) (Cons u Nil)) own
    ∙ sym (ap (trees_at store) next ∙ trees_at-append store (take i kids) (kid ∷ []))

pub trees_push : (ts : List Term) (i : ℕ) (t : Term) → i < length ts → t ≡ get_or ts i t → trees (take (i + 1) ts) ≡ then (trees (take i ts)) (Cons (tree t) Nil)
trees_push ts i t h at =
    let next : take (i + 1) ts ≡ take i ts ++ t ∷ [] = take_more ts i t h ∙ ap (λ (u : Term). take i ts ++ u ∷ []) (sym at) in
    ap trees next ∙ trees-append (take i ts) (t ∷ [])
