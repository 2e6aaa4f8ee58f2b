-- A tree means at most one value.
use Rattle.std.proofs.Common.{◌≡◌, ℕ, ◌<◌, ◌⊎◌, Option, List, sym, ◌∙◌, inl, inr}
use Rattle.qv_words.specs.Sort.{size_of}
use Rattle.qv_words.specs.Tree.{Tree, Trees, Constant, Variable, Literal, Apply, ForAll, Exists, Nil, Cons}
use Rattle.qv_words.specs.Sorted.{with_level}
use Rattle.qv_words.specs.Meaning.{Means, MeanAll}

-- one test holds of every number below n, or another of some
abbrev AllOrSome : (A B : ℕ → Type 0) (n v all some : ℕ) → Type 0
AllOrSome A B n v all some =
    ((v ≡ all) × ((u : ℕ) → u < n → A u)) ⊎ ((v ≡ some) × ((u : ℕ) × (u < n) × B u))

-- where no number meets both, only one side can be
one_side : (A B : ℕ → Type 0) (n v w all some : ℕ) → ((u : ℕ) → A u → B u → ⊥) → AllOrSome A B n v all some → AllOrSome A B n w all some → v ≡ w
one_side A B n v w all some apart (inl p) (inl q) = p.0 ∙ sym q.0
one_side A B n v w all some apart (inl p) (inr q) = absurd (apart q.1.0 (p.1 q.1.0 q.1.1) q.1.2)
one_side A B n v w all some apart (inr p) (inl q) = absurd (apart p.1.0 (q.1 p.1.0 p.1.1) p.1.2)
one_side A B n v w all some apart (inr p) (inr q) = p.0 ∙ sym q.0

-- the same with its sides exchanged
turned : {A B : Type 0} → A ⊎ B → B ⊎ A
turned (inl a) = inr a
turned (inr b) = inl b

mutual
  pub one_meaning : (t : Tree) (c : List ℕ) (e : ℕ → Option ℕ) (v w : ℕ) → Means c e t v → Means c e t w → v ≡ w
  one_meaning (Constant i s) c e v w p q = cc
  one_meaning (Variable l s) c e v w p q = cc
  one_meaning (Literal s n) c e v w p q = cc
  one_meaning (Apply o args) c e v w p q =
      let sorts : p.0 ≡ q.0 = cc in
      let values : p.1 ≡ q.1 = one_meaning_each args c e p.1 q.1 p.3 q.3 in
      cc
  one_meaning (ForAll l s body) c e v w p q =
      one_side (λ u. Means c (with_level e l u) body 1) (λ u. Means c (with_level e l u) body 0) (size_of s) v w 1 0
      (λ u a b. let same : 1 ≡ 0 = one_meaning body c (with_level e l u) 1 0 a b in cc)
      p q
  one_meaning (Exists l s body) c e v w p q =
      one_side (λ u. Means c (with_level e l u) body 0) (λ u. Means c (with_level e l u) body 1) (size_of s) v w 0 1
      (λ u a b. let same : 0 ≡ 1 = one_meaning body c (with_level e l u) 0 1 a b in cc)
      (turned p) (turned q)

  pub one_meaning_each : (ts : Trees) (c : List ℕ) (e : ℕ → Option ℕ) (vs ws : List ℕ) → MeanAll c e ts vs → MeanAll c e ts ws → vs ≡ ws
  one_meaning_each Nil c e vs ws p q = p ∙ sym q
  one_meaning_each (Cons t ts) c e vs ws p q =
      let first : p.0 ≡ q.0 = one_meaning t c e p.0 q.0 p.2 q.2 in
      let others : p.1 ≡ q.1 = one_meaning_each ts c e p.1 q.1 p.3 q.3 in
      cc
