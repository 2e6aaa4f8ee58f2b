-- The subtrees of a tree behind those seen before.
use Rattle.std.proofs.Common.{◌≡◌, ℕ, ◌+◌, ◌<◌, ◌≤◌, ◌⊎◌, inl, inr, Bool, true, false, cond, List, [], ◌∷◌, ◌++◌, length, refl, ap, sym, ◌∙◌, arith}
use Rattle.std.proofs.lemmas.List.Folds.{list_any-append}
use Rattle.qv_words.specs.Tree.{Tree, Trees, Constant, Variable, Literal, Apply, ForAll, Exists, Nil, Cons, IsQuantifierFree, AreQuantifierFree}
use Rattle.qv_words.specs.Equality.{tree_eq}
use Rattle.qv_words.specs.Clauses.{is_among, with_nodes, with_nodes_of}
use Rattle.qv_words.specs.Prenex.{tree_size, trees_size}
use Rattle.qv_words.proofs.Equals.{tree_eq-refl, tree_eq-is}
use Rattle.qv_store.specs.Stores.{StandsAt, AreBelow, children_of}
use Rattle.qv_store.specs.Walks.{with_subtrees, with_subtrees_of}
use Rattle.qv_store.specs.Visits.{steps, steps_of}
use Rattle.qv_store.proofs.Sharing.{at-among}
use Rattle.std.proofs.lemmas.Bool.{or_cases, or_left, or_right}

-- what is done at each tree
pub subtrees-rule : (seen : List Tree) (t : Tree) → with_subtrees seen t ≡ cond (is_among seen t) seen (with_subtrees_of seen (children_of t) ++ t ∷ [])
subtrees-rule seen (Constant i s) = refl
subtrees-rule seen (Variable l s) = refl
subtrees-rule seen (Literal s n) = refl
subtrees-rule seen (Apply o args) = refl
subtrees-rule seen (ForAll l s body) = refl
subtrees-rule seen (Exists l s body) = refl

pub steps-rule : (seen : List Tree) (t : Tree) → steps seen t ≡ cond (is_among seen t) 1 (2 + steps_of seen (children_of t))
steps-rule seen (Constant i s) = refl
steps-rule seen (Variable l s) = refl
steps-rule seen (Literal s n) = refl
steps-rule seen (Apply o args) = refl
steps-rule seen (ForAll l s body) =
    let none : 2 + steps seen body ≡ 2 + (steps seen body + 0) = omega arith in ap (cond (is_among seen (ForAll l s body)) 1) none
steps-rule seen (Exists l s body) =
    let none : 2 + steps seen body ≡ 2 + (steps seen body + 0) = omega arith in ap (cond (is_among seen (Exists l s body)) 1) none

size-rule : (t : Tree) → tree_size t ≡ 1 + trees_size (children_of t)
size-rule (Constant i s) = refl
size-rule (Variable l s) = refl
size-rule (Literal s n) = refl
size-rule (Apply o args) = refl
size-rule (ForAll l s body) = omega arith
size-rule (Exists l s body) = omega arith

among-parts : (xs : List Tree) (t u : Tree) → is_among (xs ++ t ∷ []) u ≡ true → (is_among xs u ≡ true) ⊎ (u ≡ t)
among-parts xs t u h = by (or_cases (is_among xs u) (is_among (t ∷ []) u) (sym (list_any-append (tree_eq u) xs (t ∷ [])) ∙ h))
  where
    by : (is_among xs u ≡ true) ⊎ (is_among (t ∷ []) u ≡ true) → (is_among xs u ≡ true) ⊎ (u ≡ t)
    by (inl k) = inl k
    by (inr k) = inr (one (or_cases (tree_eq u t) false k))
      where
        one : (tree_eq u t ≡ true) ⊎ (false ≡ true) → u ≡ t
        one (inl e) = tree_eq-is u t e
        one (inr e) = absurd (cc)

pub among-front : (xs ys : List Tree) (u : Tree) → is_among xs u ≡ true → is_among (xs ++ ys) u ≡ true
among-front xs ys u h = list_any-append (tree_eq u) xs ys ∙ or_left (is_among xs u) (is_among ys u) h

among-last : (xs : List Tree) (t : Tree) → is_among (xs ++ t ∷ []) t ≡ true
among-last xs t = list_any-append (tree_eq t) xs (t ∷ []) ∙ or_right (is_among xs t) (is_among (t ∷ []) t) (or_left (tree_eq t t) false (tree_eq-refl t))

-- what is seen stays seen
kept-one : (seen found : List Tree) (t u : Tree) (b : Bool) → is_among seen u ≡ true → is_among found u ≡ true → is_among (cond b seen (found ++ t ∷ [])) u ≡ true
kept-one seen found t u true h k = h
kept-one seen found t u false h k = among-front found (t ∷ []) u k

mutual
  pub kept : (seen : List Tree) (t u : Tree) → is_among seen u ≡ true → is_among (with_subtrees seen t) u ≡ true
  kept seen (Constant i s) u h = kept-one seen seen (Constant i s) u (is_among seen (Constant i s)) h h
  kept seen (Variable l s) u h = kept-one seen seen (Variable l s) u (is_among seen (Variable l s)) h h
  kept seen (Literal s n) u h = kept-one seen seen (Literal s n) u (is_among seen (Literal s n)) h h
  kept seen (Apply o args) u h = kept-one seen (with_subtrees_of seen args) (Apply o args) u (is_among seen (Apply o args)) h (kept_of seen args u h)
  kept seen (ForAll l s body) u h = kept-one seen (with_subtrees seen body) (ForAll l s body) u (is_among seen (ForAll l s body)) h (kept seen body u h)
  kept seen (Exists l s body) u h = kept-one seen (with_subtrees seen body) (Exists l s body) u (is_among seen (Exists l s body)) h (kept seen body u h)

  pub kept_of : (seen : List Tree) (ts : Trees) (u : Tree) → is_among seen u ≡ true → is_among (with_subtrees_of seen ts) u ≡ true
  kept_of seen Nil u h = h
  kept_of seen (Cons t ts) u h = kept_of (with_subtrees seen t) ts u (kept seen t u h)

-- a tree is seen behind it
pub seen-itself : (seen : List Tree) (t : Tree) → is_among (with_subtrees seen t) t ≡ true
seen-itself seen t = ap (λ ts. is_among ts t) (subtrees-rule seen t) ∙ by (is_among seen t) refl
  where
    by : (b : Bool) → is_among seen t ≡ b → is_among (cond b seen (with_subtrees_of seen (children_of t) ++ t ∷ [])) t ≡ true
    by true e = e
    by false e = among-last (with_subtrees_of seen (children_of t)) t

-- and so is each of a list
found-below : (found : List Tree) (t : Tree) → is_among found t ≡ true → (m : ℕ) × (m < length found) × StandsAt found m t
found-below found t h = let at = at-among found t h in (at.0, at.1.below, at.1)

below-each : (seen : List Tree) (ts : Trees) (found : List Tree) → ((u : Tree) → is_among (with_subtrees_of seen ts) u ≡ true → is_among found u ≡ true) → AreBelow found (length found) ts
below-each seen Nil found all = tt
below-each seen (Cons t ts) found all =
    (found-below found t (all t (kept_of (with_subtrees seen t) ts t (seen-itself seen t))), below-each (with_subtrees seen t) ts found all)

pub kids-seen : (seen : List Tree) (ts : Trees) → AreBelow (with_subtrees_of seen ts) (length (with_subtrees_of seen ts)) ts
kids-seen seen ts = below-each seen ts (with_subtrees_of seen ts) (λ u h. h)

-- what is seen anew is no larger than the tree
late-one : (seen found : List Tree) (t u : Tree) (n : ℕ) (b : Bool) → (is_among found u ≡ true → (is_among seen u ≡ true) ⊎ (tree_size u ≤ n)) → n ≤ tree_size t
    → is_among (cond b seen (found ++ t ∷ [])) u ≡ true → (is_among seen u ≡ true) ⊎ (tree_size u ≤ tree_size t)
late-one seen found t u n true go small h = inl h
late-one seen found t u n false go small h = by (among-parts found t u h)
  where
    by : (is_among found u ≡ true) ⊎ (u ≡ t) → (is_among seen u ≡ true) ⊎ (tree_size u ≤ tree_size t)
    by (inl k) = or (go k)
      where
        or : (is_among seen u ≡ true) ⊎ (tree_size u ≤ n) → (is_among seen u ≡ true) ⊎ (tree_size u ≤ tree_size t)
        or (inl m) = inl m
        or (inr m) = inr (omega (arith, m, small))
    by (inr e) = inr (omega (arith, ap tree_size e))

late-or : (seen : List Tree) (t : Tree) (ts : Trees) (u : Tree) → (is_among seen u ≡ true) ⊎ (tree_size u ≤ tree_size t) → (is_among seen u ≡ true) ⊎ (tree_size u ≤ trees_size (Cons t ts))
late-or seen t ts u (inl k) = inl k
late-or seen t ts u (inr k) = inr (omega (arith, k))

late-both : (seen : List Tree) (t : Tree) (ts : Trees) (u : Tree) → (is_among (with_subtrees seen t) u ≡ true) ⊎ (tree_size u ≤ trees_size ts)
    → (is_among (with_subtrees seen t) u ≡ true → (is_among seen u ≡ true) ⊎ (tree_size u ≤ tree_size t)) → (is_among seen u ≡ true) ⊎ (tree_size u ≤ trees_size (Cons t ts))
late-both seen t ts u (inr k) go = inr (omega (arith, k))
late-both seen t ts u (inl k) go = late-or seen t ts u (go k)

mutual
  late : (seen : List Tree) (t u : Tree) → is_among (with_subtrees seen t) u ≡ true → (is_among seen u ≡ true) ⊎ (tree_size u ≤ tree_size t)
  late seen (Constant i s) u h = late-one seen seen (Constant i s) u 0 (is_among seen (Constant i s)) (λ k. inl k) (omega arith) h
  late seen (Variable l s) u h = late-one seen seen (Variable l s) u 0 (is_among seen (Variable l s)) (λ k. inl k) (omega arith) h
  late seen (Literal s n) u h = late-one seen seen (Literal s n) u 0 (is_among seen (Literal s n)) (λ k. inl k) (omega arith) h
  late seen (Apply o args) u h =
      late-one seen (with_subtrees_of seen args) (Apply o args) u (trees_size args) (is_among seen (Apply o args)) (late_of seen args u) (omega arith) h
  late seen (ForAll l s body) u h =
      late-one seen (with_subtrees seen body) (ForAll l s body) u (tree_size body) (is_among seen (ForAll l s body)) (late seen body u) (omega arith) h
  late seen (Exists l s body) u h =
      late-one seen (with_subtrees seen body) (Exists l s body) u (tree_size body) (is_among seen (Exists l s body)) (late seen body u) (omega arith) h

  late_of : (seen : List Tree) (ts : Trees) (u : Tree) → is_among (with_subtrees_of seen ts) u ≡ true → (is_among seen u ≡ true) ⊎ (tree_size u ≤ trees_size ts)
  late_of seen Nil u h = inl h
  late_of seen (Cons t ts) u h = late-both seen t ts u (late_of (with_subtrees seen t) ts u h) (late seen t u)

-- so a new tree is new behind its children
pub new-behind : (seen : List Tree) (t : Tree) → is_among seen t ≡ false → is_among (with_subtrees_of seen (children_of t)) t ≡ false
new-behind seen t new = by (is_among (with_subtrees_of seen (children_of t)) t) refl
  where
    by : (b : Bool) → is_among (with_subtrees_of seen (children_of t)) t ≡ b → b ≡ false
    by false e = refl
    by true e = or (late_of seen (children_of t) t e)
      where
        or : (is_among seen t ≡ true) ⊎ (tree_size t ≤ trees_size (children_of t)) → true ≡ false
        or (inl k) = absurd (cc)
        or (inr k) = absurd (omega (arith, k, size-rule t))

-- without quantifiers these are the nodes
mutual
  pub subtrees-nodes : (seen : List Tree) (t : Tree) → IsQuantifierFree t → with_subtrees seen t ≡ with_nodes seen t
  subtrees-nodes seen (Constant i s) h = refl
  subtrees-nodes seen (Variable l s) h = refl
  subtrees-nodes seen (Literal s n) h = refl
  subtrees-nodes seen (Apply o args) h = ap (λ found. cond (is_among seen (Apply o args)) seen (found ++ Apply o args ∷ [])) (subtrees-nodes_of seen args h)
  subtrees-nodes seen (ForAll l s body) h = absurd h
  subtrees-nodes seen (Exists l s body) h = absurd h

  subtrees-nodes_of : (seen : List Tree) (ts : Trees) → AreQuantifierFree ts → with_subtrees_of seen ts ≡ with_nodes_of seen ts
  subtrees-nodes_of seen Nil h = refl
  subtrees-nodes_of seen (Cons t ts) h =
      ap (λ found. with_subtrees_of found ts) (subtrees-nodes seen t h.0) ∙ subtrees-nodes_of (with_nodes seen t) ts h.1
