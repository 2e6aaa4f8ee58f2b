-- Lists of terms that grow by one.
use Rattle.std.proofs.Common.{◌≡◌, ℕ, ◌+◌, ◌<◌, List, [], ◌∷◌, ◌++◌, get_or, take, length, Option, refl, sym, ap, ◌∙◌}
use Rattle.std.proofs.lemmas.List.{take_more}
use Rattle.qv_words.specs.Tree.{Tree, Trees, Nil, Cons}
use Rattle.qv_words.specs.Replacement.{replaced, replaced_each}
use Rattle.qv_terms.specs.declared.term.Term.{Term}
use Rattle.qv_terms.specs.View.{tree, trees}

-- two lists of trees, one behind the other
abbrev joined : Trees → Trees → Trees
joined Nil us = us
joined (Cons t ts) us = Cons t (joined ts us)

pub trees-append : (ts us : List Term) → trees (ts ++ us) ≡ joined (trees ts) (trees us)
trees-append [] us = refl
trees-append (t ∷ ts) us = ap (Cons (tree t)) (trees-append ts us)

-- one more term, and one more tree put in
pub trees-push : (old : List Term) (t u : Term) (ts : List Term) (i : ℕ) → i < length ts → trees old ≡ trees (take i ts) → tree t ≡ tree u → u ≡ get_or ts i u → trees (old ++ t ∷ []) ≡ trees (take (i + 1) ts)
trees-push old t u ts i h same one at =
    trees-append old (t ∷ []) ∙ ap (λ x. joined x (Cons (tree t) Nil)) same ∙ ap (λ x. joined (trees (take i ts)) (Cons x Nil)) (one ∙ ap tree at)
    ∙ sym (trees-append (take i ts) (get_or ts i u ∷ [])) ∙ ap trees (sym (take_more ts i u h))

replaced-joined : (b : ℕ → Option Tree) (ts us : Trees) → replaced_each b (joined ts us) ≡ joined (replaced_each b ts) (replaced_each b us)
replaced-joined b Nil us = refl
replaced-joined b (Cons t ts) us = ap (Cons (replaced b t)) (replaced-joined b ts us)

pub replaced-push : (b : ℕ → Option Tree) (old : List Term) (t u : Term) (ts : List Term) (i : ℕ) → i < length ts → trees old ≡ replaced_each b (trees (take i ts)) → tree t ≡ replaced b (tree u) → u ≡ get_or ts i u → trees (old ++ t ∷ []) ≡ replaced_each b (trees (take (i + 1) ts))
replaced-push b old t u ts i h same one at =
    trees-append old (t ∷ []) ∙ ap (λ x. joined x (Cons (tree t) Nil)) same ∙ ap (λ x. joined (replaced_each b (trees (take i ts))) (Cons x Nil)) (one ∙ ap (λ x. replaced b (tree x)) at)
    ∙ sym (replaced-joined b (trees (take i ts)) (Cons (tree (get_or ts i u)) Nil)) ∙ ap (replaced_each b) (sym (trees-append (take i ts) (get_or ts i u ∷ []))) ∙ ap (λ x. replaced_each b (trees x)) (sym (take_more ts i u h))
