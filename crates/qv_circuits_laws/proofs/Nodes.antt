-- The nodes of a tree are its subtrees in post-order, each where it first appears.
use Rattle.std.proofs.Common.{◌≡◌, ℕ, ◌≤◌, ◌⊎◌, inl, inr, Bool, true, false, cond, ◌||◌, List, [], ◌∷◌, ◌++◌, refl, sym, ap, ◌∙◌, subst, arith, le_refl}
use Rattle.std.specs.List.{flat_map}
use Rattle.qv_words.specs.declared.op.Op.{Op}
use Rattle.qv_words.specs.Tree.{Tree, Trees, Constant, Variable, Literal, Apply, ForAll, Exists, Nil, Cons}
use Rattle.qv_words.specs.Equality.{tree_eq}
use Rattle.qv_words.specs.Prenex.{tree_size, trees_size}
use Rattle.qv_words.specs.Clauses.{is_among, with_nodes, with_nodes_of, nodes_behind}
use Rattle.qv_circuits_laws.specs.ClauseLaws.{post_order, post_order_each, first_appearances}
use Rattle.qv_words.proofs.Equals.{tree_eq-is, tree_eq-refl}

-- a tree stands in a list
abbrev pub In : Tree → List Tree → Type 0
In t [] = ⊥
In t (u ∷ us) = (t ≡ u) ⊎ In t us

pub in-from_test : (us : List Tree) (t : Tree) → is_among us t ≡ true → In t us
in-from_test [] t h = cc
in-from_test (u ∷ us) t h = go (tree_eq t u) refl h (λ k. in-from_test us t k)
  where
    go : (b : Bool) → tree_eq t u ≡ b → (b || is_among us t) ≡ true → (is_among us t ≡ true → In t us) → In t (u ∷ us)
    go true is h rest = inl (tree_eq-is t u is)
    go false is h rest = inr (rest h)

or-true : (b : Bool) → (b || true) ≡ true
or-true true = refl
or-true false = refl

pub test-from_in : (us : List Tree) (t : Tree) → In t us → is_among us t ≡ true
test-from_in [] t h = absurd h
test-from_in (u ∷ us) t (inl e) = ap (λ b. b || is_among us t) (sym (ap (tree_eq t) e) ∙ tree_eq-refl t)
test-from_in (u ∷ us) t (inr h) = ap (λ b. tree_eq t u || b) (test-from_in us t h) ∙ or-true (tree_eq t u)

test-false : (us : List Tree) (t : Tree) → (In t us → ⊥) → is_among us t ≡ false
test-false us t h = go (is_among us t) refl
  where
    go : (b : Bool) → is_among us t ≡ b → b ≡ false
    go true is = absurd (h (in-from_test us t is))
    go false is = refl

-- in two lists behind one another
pub in-left : (t : Tree) (us xs : List Tree) → In t us → In t (us ++ xs)
in-left t [] xs h = absurd h
in-left t (u ∷ us) xs (inl e) = inl e
in-left t (u ∷ us) xs (inr h) = inr (in-left t us xs h)

pub in-right : (t : Tree) (us xs : List Tree) → In t xs → In t (us ++ xs)
in-right t [] xs h = h
in-right t (u ∷ us) xs h = inr (in-right t us xs h)

pub in-either : (t : Tree) (us xs : List Tree) → In t (us ++ xs) → In t us ⊎ In t xs
in-either t [] xs h = inr h
in-either t (u ∷ us) xs (inl e) = inl (inl e)
in-either t (u ∷ us) xs (inr h) = elim (in-either t us xs h) [ inl a ↦ inl (inr a) | inr b ↦ inr b ]

-- one more tree, where it is new
abbrev pub one_more : List Tree → Tree → List Tree
one_more seen t = cond (is_among seen t) seen (seen ++ t ∷ [])

in-more : (seen : List Tree) (t x : Tree) → In x seen → In x (one_more seen t)
in-more seen t x h = go (is_among seen t)
  where
    go : (b : Bool) → In x (cond b seen (seen ++ t ∷ []))
    go true = h
    go false = in-left x seen (t ∷ []) h

in-last : (seen : List Tree) (t : Tree) → In t (one_more seen t)
in-last seen t = go (is_among seen t) refl
  where
    go : (b : Bool) → is_among seen t ≡ b → In t (cond b seen (seen ++ t ∷ []))
    go true is = in-from_test seen t is
    go false is = in-right t seen (t ∷ []) (inl refl)

more-either : (seen : List Tree) (t x : Tree) → In x (one_more seen t) → In x seen ⊎ (x ≡ t)
more-either seen t x h = go (is_among seen t) h
  where
    go : (b : Bool) → In x (cond b seen (seen ++ t ∷ [])) → In x seen ⊎ (x ≡ t)
    go true k = inl k
    go false k = elim (in-either x seen (t ∷ []) k) [ inl a ↦ inl a | inr (inl e) ↦ inr e | inr (inr none) ↦ absurd none ]

-- first appearances
pub firsts-append : (seen xs ys : List Tree) → first_appearances seen (xs ++ ys) ≡ first_appearances (first_appearances seen xs) ys
firsts-append seen [] ys = refl
firsts-append seen (x ∷ xs) ys = firsts-append (one_more seen x) xs ys

firsts-known : (seen xs : List Tree) → ((x : Tree) → In x xs → In x seen) → first_appearances seen xs ≡ seen
firsts-known seen [] h = refl
firsts-known seen (x ∷ xs) h =
    ap (λ b. first_appearances (cond b seen (seen ++ x ∷ [])) xs) (test-from_in seen x (h x (inl refl)))
    ∙ firsts-known seen xs (λ y k. h y (inr k))

firsts-keep : (seen xs : List Tree) (t : Tree) → In t seen → In t (first_appearances seen xs)
firsts-keep seen [] t h = h
firsts-keep seen (x ∷ xs) t h = firsts-keep (one_more seen x) xs t (in-more seen x t h)

pub firsts-gain : (seen xs : List Tree) (t : Tree) → In t xs → In t (first_appearances seen xs)
firsts-gain seen [] t h = absurd h
firsts-gain seen (x ∷ xs) t (inl e) = firsts-keep (one_more seen x) xs t (subst (λ (y : Tree). In y (one_more seen x)) (sym e) (in-last seen x))
firsts-gain seen (x ∷ xs) t (inr h) = firsts-gain (one_more seen x) xs t h

pub firsts-from : (seen xs : List Tree) (t : Tree) → In t (first_appearances seen xs) → In t seen ⊎ In t xs
firsts-from seen [] t h = inl h
firsts-from seen (x ∷ xs) t h =
    elim (firsts-from (one_more seen x) xs t h) [
      | inl a ↦ elim (more-either seen x t a) [ inl k ↦ inl k | inr e ↦ inr (inl e) ]
      | inr b ↦ inr (inr b)
    ]

-- a subtree is no larger
leaf-size : (u t : Tree) → In u (t ∷ []) → tree_size u ≤ tree_size t
leaf-size u t (inl e) = subst (λ (n : ℕ). tree_size u ≤ n) (ap tree_size e) (le_refl (tree_size u))
leaf-size u t (inr h) = absurd h

mutual
  sizes : (u t : Tree) → In u (post_order t) → tree_size u ≤ tree_size t
  sizes u (Constant i s) h = leaf-size u (Constant i s) h
  sizes u (Variable l s) h = leaf-size u (Variable l s) h
  sizes u (Literal s n) h = leaf-size u (Literal s n) h
  sizes u (Apply o ts) h =
      elim (in-either u (post_order_each ts) (Apply o ts ∷ []) h) [
        | inl a ↦ omega (arith, each-size u ts a)
        | inr b ↦ leaf-size u (Apply o ts) b
      ]
  sizes u (ForAll l s t) h = leaf-size u (ForAll l s t) h
  sizes u (Exists l s t) h = leaf-size u (Exists l s t) h

  each-size : (u : Tree) (ts : Trees) → In u (post_order_each ts) → tree_size u ≤ trees_size ts
  each-size u Nil h = absurd h
  each-size u (Cons t ts) h =
      elim (in-either u (post_order t) (post_order_each ts) h) [
        | inl a ↦ omega (arith, sizes u t a)
        | inr b ↦ omega (arith, each-size u ts b)
      ]

-- with each tree its subtrees are there
abbrev pub Closed : List Tree → Type 0
Closed seen = (u x : Tree) → In u seen → In x (post_order u) → In x seen

closed-more : (seen : List Tree) (t : Tree) → Closed seen → ((x : Tree) → In x (post_order t) → In x seen ⊎ (x ≡ t)) → Closed (one_more seen t)
closed-more seen t closed below u x h k =
    elim (more-either seen t u h) [
      | inl a ↦ in-more seen t x (closed u x a k)
      | inr e ↦ elim (below x (subst (λ (y : Tree). In x (post_order y)) e k)) [
        | inl a ↦ in-more seen t x a
        | inr f ↦ subst (λ (y : Tree). In y (one_more seen t)) (sym f) (in-last seen t)
      ]
    ]

only : (t x : Tree) (seen : List Tree) → In x (t ∷ []) → In x seen ⊎ (x ≡ t)
only t x seen (inl e) = inr e
only t x seen (inr h) = absurd h

abbrev pub Alike : List Tree → List Tree → List Tree → Type 0
Alike found seen xs = (found ≡ first_appearances seen xs) × Closed (first_appearances seen xs)

-- an application behind its arguments
application : (seen : List Tree) (o : Op) (ts : Trees) → Closed seen → Alike (with_nodes_of seen ts) seen (post_order_each ts) → Alike (with_nodes seen (Apply o ts)) seen (post_order (Apply o ts))
application seen o ts closed rest = go (is_among seen (Apply o ts)) refl
  where
    go : (b : Bool) → is_among seen (Apply o ts) ≡ b → Alike (cond b seen (with_nodes_of seen ts ++ Apply o ts ∷ [])) seen (post_order (Apply o ts))
    go true is =
        let same : first_appearances seen (post_order (Apply o ts)) ≡ seen = firsts-known seen (post_order (Apply o ts)) (λ x k. closed (Apply o ts) x (in-from_test seen (Apply o ts) is) k) in
        (sym same, subst Closed (sym same) closed)
    go false is =
        let t = Apply o ts in
        let base = first_appearances seen (post_order_each ts) in
        let old : In t seen → ⊥ = λ k. let both : true ≡ false = sym (test-from_in seen t k) ∙ is in cc in
        let inside : In t (post_order_each ts) → ⊥ = λ k. omega (arith, each-size t ts k) in
        let fresh : is_among base t ≡ false = test-false base t (λ k. elim (firsts-from seen (post_order_each ts) t k) [ inl a ↦ old a | inr b ↦ inside b ]) in
        let split : first_appearances seen (post_order t) ≡ one_more base t = firsts-append seen (post_order_each ts) (t ∷ []) in
        let built : with_nodes_of seen ts ++ t ∷ [] ≡ one_more base t = ap (λ us. us ++ t ∷ []) rest.0 ∙ sym (ap (λ b. cond b base (base ++ t ∷ [])) fresh) in (
          built ∙ sym split,
          subst Closed (sym split) (closed-more base t rest.1 (λ x k.
              elim (in-either x (post_order_each ts) (t ∷ []) k) [
                | inl a ↦ inl (firsts-gain seen (post_order_each ts) x a)
                | inr b ↦ only t x base b
              ])),
        )

mutual
  pub of-tree : (seen : List Tree) (t : Tree) → Closed seen → Alike (with_nodes seen t) seen (post_order t)
  of-tree seen (Constant i s) closed = (refl, closed-more seen (Constant i s) closed (λ x k. only (Constant i s) x seen k))
  of-tree seen (Variable l s) closed = (refl, closed-more seen (Variable l s) closed (λ x k. only (Variable l s) x seen k))
  of-tree seen (Literal s n) closed = (refl, closed-more seen (Literal s n) closed (λ x k. only (Literal s n) x seen k))
  of-tree seen (Apply o ts) closed = application seen o ts closed (of-each seen ts closed)
  of-tree seen (ForAll l s t) closed = (refl, closed-more seen (ForAll l s t) closed (λ x k. only (ForAll l s t) x seen k))
  of-tree seen (Exists l s t) closed = (refl, closed-more seen (Exists l s t) closed (λ x k. only (Exists l s t) x seen k))

  of-each : (seen : List Tree) (ts : Trees) → Closed seen → Alike (with_nodes_of seen ts) seen (post_order_each ts)
  of-each seen Nil closed = (refl, closed)
  of-each seen (Cons t ts) closed =
      let first = of-tree seen t closed in
      let others = of-each (first_appearances seen (post_order t)) ts first.1 in
      let split = firsts-append seen (post_order t) (post_order_each ts) in
      (ap (λ us. with_nodes_of us ts) first.0 ∙ others.0 ∙ sym split, subst Closed (sym split) others.1)

pub of-formulas : (seen ts : List Tree) → Closed seen → nodes_behind seen ts ≡ first_appearances seen (flat_map post_order ts)
of-formulas seen [] closed = refl
of-formulas seen (t ∷ ts) closed =
    let first = of-tree seen t closed in
    ap (λ us. nodes_behind us ts) first.0 ∙ of-formulas (first_appearances seen (post_order t)) ts first.1
    ∙ sym (firsts-append seen (post_order t) (flat_map post_order ts))
