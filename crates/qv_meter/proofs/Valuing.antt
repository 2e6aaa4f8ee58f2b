-- What formulas mean under given values, computed.
use Rattle.std.proofs.Common.{◌≡◌, ℕ, zero, suc, ◌<◌, List, [], ◌∷◌, Option, Some, None, refl, sym, subst, arith}
use Rattle.std.specs.List.{slice_get}
use Rattle.std.proofs.lemmas.Option.{none-some, same_Some}
use Rattle.qv_words.specs.declared.sort.Sort.{Sort}
use Rattle.qv_words.specs.declared.sort.Sort.TheVariants.{Bool as BoolSort}
use Rattle.qv_words.specs.declared.op.Op.{Op}
use Rattle.qv_words.specs.Op.{op_value}
use Rattle.qv_words.specs.Tree.{Tree, Trees, Constant, Variable, Literal, Apply, ForAll, Exists, Nil, Cons, tree_sorts}
use Rattle.qv_words.specs.Meaning.{Means, MeanAll}
use Rattle.qv_words.specs.Choice.{IsTrueAt}
use Rattle.qv_words.specs.Linked.{HaveOneValue}
use Rattle.qv_words.proofs.Unique.{one_meaning}

abbrev applied : Op → Option (List Sort) → Option (List ℕ) → Option ℕ
applied o (Some sorts) (Some vs) = Some (op_value o sorts vs)
applied o _ _ = None

abbrev joined : Option ℕ → Option (List ℕ) → Option (List ℕ)
joined (Some v) (Some vs) = Some (v ∷ vs)
joined _ _ = None

abbrev mutual
  pub value : (ℕ → Option ℕ) → Tree → Option ℕ
  value e (Constant i s) = None
  value e (Variable l s) = e l
  value e (Literal s n) = Some n
  value e (Apply o args) = applied o (tree_sorts args) (values e args)
  value e (ForAll l s body) = None
  value e (Exists l s body) = None

  pub values : (ℕ → Option ℕ) → Trees → Option (List ℕ)
  values e Nil = Some []
  values e (Cons t ts) = joined (value e t) (values e ts)

of_applied : (o : Op) (sorts : Option (List Sort)) (vs : Option (List ℕ)) (v : ℕ) → applied o sorts vs ≡ Some v → (ss : List Sort) × (us : List ℕ) × (sorts ≡ Some ss) × (vs ≡ Some us) × (v ≡ op_value o ss us)
of_applied o None None v h = absurd (none-some v h)
of_applied o None (Some us) v h = absurd (none-some v h)
of_applied o (Some ss) None v h = absurd (none-some v h)
of_applied o (Some ss) (Some us) v h = (ss, us, refl, refl, sym (same_Some (op_value o ss us) v h))

of_joined : (v : Option ℕ) (vs : Option (List ℕ)) (us : List ℕ) → joined v vs ≡ Some us → (u : ℕ) × (rest : List ℕ) × (v ≡ Some u) × (vs ≡ Some rest) × (us ≡ u ∷ rest)
of_joined None None us h = absurd (none-some us h)
of_joined None (Some ws) us h = absurd (none-some us h)
of_joined (Some u) None us h = absurd (none-some us h)
of_joined (Some u) (Some ws) us h = (u, ws, refl, refl, sym (same_Some (u ∷ ws) us h))

mutual
  pub value-means : (e : ℕ → Option ℕ) (t : Tree) (v : ℕ) → value e t ≡ Some v → Means [] e t v
  value-means e (Constant i s) v h = absurd (none-some v h)
  value-means e (Variable l s) v h = h
  value-means e (Literal s n) v h = sym (same_Some n v h)
  value-means e (Apply o args) v h =
      let parts = of_applied o (tree_sorts args) (values e args) v h in
      (parts.0, parts.1, parts.2, values-mean e args parts.1 parts.3, parts.4)
  value-means e (ForAll l s body) v h = absurd (none-some v h)
  value-means e (Exists l s body) v h = absurd (none-some v h)

  values-mean : (e : ℕ → Option ℕ) (ts : Trees) (vs : List ℕ) → values e ts ≡ Some vs → MeanAll [] e ts vs
  values-mean e Nil vs h = sym (same_Some [] vs h)
  values-mean e (Cons t ts) vs h =
      let parts = of_joined (value e t) (values e ts) vs h in
      (parts.0, parts.1, value-means e t parts.0 parts.2, values-mean e ts parts.1 parts.3, parts.4)

pub holds : (point : List ℕ) (t : Tree) → value (slice_get point) t ≡ Some 1 → IsTrueAt point t
holds point t h = value-means (slice_get point) t 1 h

pub fails : (point : List ℕ) (t : Tree) → value (slice_get point) t ≡ Some 0 → IsTrueAt point t → ⊥
fails point t h true =
    let same : 0 ≡ 1 = one_meaning t [] (slice_get point) 0 1 (value-means (slice_get point) t 0 h) true in
    omega (arith, same)

-- what means 1 everywhere has the value of true
pub like_true : (t : Tree) → ((e : ℕ → Option ℕ) → value e t ≡ Some 1) → HaveOneValue (Literal BoolSort 1) t
like_true t h e ha hb v =
    (λ m. subst (λ (k : ℕ). Means [] e t k) (sym m) (value-means e t 1 (h e)), λ m. one_meaning t [] e v 1 m (value-means e t 1 (h e)))

pub like_itself : (t : Tree) → HaveOneValue t t
like_itself t e ha hb v = (λ m. m, λ m. m)

-- each number below 4, and below 2
pub below_four : (P : ℕ → Type 0) → P 0 → P 1 → P 2 → P 3 → (n : ℕ) → n < 4 → P n
below_four P a b c d zero h = a
below_four P a b c d (suc zero) h = b
below_four P a b c d (suc (suc zero)) h = c
below_four P a b c d (suc (suc (suc zero))) h = d
below_four P a b c d (suc (suc (suc (suc n)))) h = absurd (omega (arith, h))

pub below_two : (P : ℕ → Type 0) → P 0 → P 1 → (n : ℕ) → n < 2 → P n
below_two P a b zero h = a
below_two P a b (suc zero) h = b
below_two P a b (suc (suc n)) h = absurd (omega (arith, h))
