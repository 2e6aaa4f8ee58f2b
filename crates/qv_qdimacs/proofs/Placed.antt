-- The places of variables in a list, one more at a time.
use Rattle.std.proofs.Common.{◌≡◌, ℕ, ◌+◌, Bool, true, false, cond, eqb, inl, inr, List, [], ◌∷◌, ◌++◌, length, take, slice_get, Option, Some, None, refl, sym, ap, ◌∙◌, arith}
use Rattle.std.specs.Prelude.{is_some, nat_eq}
use Rattle.std.specs.List.{position_from}
use Rattle.std.specs.HashMap.{get}
use Rattle.std.proofs.lemmas.Bool.{cases_Bool, cases_eq, eq-eqb, ne_eqb}
use Rattle.std.proofs.lemmas.List.{length-take-le}
use Rattle.std.proofs.lemmas.Option.{slice_get_within}
use Rattle.qv_words.specs.Prenex.{or_else}
use Rattle.qv_qdimacs.specs.Outer.{is_in, place_in}
use Rattle.qv_qdimacs.specs.Leaves.{PlaceMap, ArePlaces}
use Rattle.qv_qdimacs.proofs.Standing.{take-next}

position-push : (w v i : ℕ) (vs : List ℕ) → position_from (eqb w) i (vs ++ v ∷ []) ≡ or_else (position_from (eqb w) i vs) (cond (eqb w v) (Some (i + length vs)) None)
position-push w v i [] = ap (λ (n : ℕ). cond (eqb w v) (Some n) None) (no-more i)
  where
    no-more : (n : ℕ) → n ≡ n + 0
    no-more n = omega arith
position-push w v i (u ∷ vs) =
    elim (cases_Bool (eqb w u)) [
      | inl same ↦ rw same refl
      | inr other ↦ rw other (position-push w v (i + 1) vs ∙ ap (λ (n : ℕ). or_else (position_from (eqb w) (i + 1) vs) (cond (eqb w v) (Some n) None)) (one-more i u vs))
    ]
  where
    one-more : (n x : ℕ) (xs : List ℕ) → n + 1 + length xs ≡ n + length (x ∷ xs)
    one-more n x xs = omega arith

-- whether there is a place
pub place-some : (v i : ℕ) (vs : List ℕ) → is_some (position_from (eqb v) i vs) ≡ is_in v vs
place-some v i [] = refl
place-some v i (w ∷ vs) =
    elim (cases_Bool (eqb v w)) [
      | inl same ↦ rw same refl
      | inr other ↦ rw other (place-some v (i + 1) vs)
    ]

or_else-none : (o : Option ℕ) → or_else o None ≡ o
or_else-none None = refl
or_else-none (Some n) = refl

-- one more variable, which had no place
pub places-more : (vs : List ℕ) (i v : ℕ) (m n : PlaceMap) → ArePlaces (take i vs) m → slice_get vs i ≡ Some v → get nat_eq m v ≡ None
    → ((q : ℕ) → get nat_eq n q ≡ cond (eqb v q) (Some i) (get nat_eq m q)) → ArePlaces (take (i + 1) vs) n
places-more vs i v m n h is none put q =
    let next : place_in (take (i + 1) vs) q ≡ or_else (place_in (take i vs) q) (cond (eqb q v) (Some (0 + length (take i vs))) None) =
    ap (λ (us : List ℕ). place_in us q) (take-next vs i v is) ∙ position-push q v 0 (take i vs) in
    let many : 0 + length (take i vs) ≡ i = omega (arith, length-take-le i vs (omega (arith, slice_get_within vs i v is))) in
    elim (cases_eq v q) [
      | inl same ↦
          let missing : place_in (take i vs) q ≡ None = sym (h q) ∙ ap (λ (w : ℕ). get nat_eq m w) (sym same) ∙ none in
          put q ∙ ap (λ (t : Bool). cond t (Some i) (get nat_eq m q)) (eq-eqb v q same)
          ∙ sym (next
          ∙ ap (λ (o : Option ℕ). or_else o (cond (eqb q v) (Some (0 + length (take i vs))) None)) missing
          ∙ ap (λ (t : Bool). cond t (Some (0 + length (take i vs))) None) (eq-eqb q v (sym same))
          ∙ ap Some many)
      | inr other ↦
          put q ∙ ap (λ (t : Bool). cond t (Some i) (get nat_eq m q)) (ne_eqb v q other)
          ∙ h q
          ∙ sym (next
          ∙ ap (λ (t : Bool). or_else (place_in (take i vs) q) (cond t (Some (0 + length (take i vs))) None)) (ne_eqb q v (λ e. other (sym e)))
          ∙ or_else-none (place_in (take i vs) q))
    ]

or_else-some : (o p : Option ℕ) → is_some o ≡ true → or_else o p ≡ o
or_else-some None p h = absurd (cc)
or_else-some (Some n) p h = refl

-- one more that has a place already
pub places-kept : (vs : List ℕ) (i v : ℕ) (m : PlaceMap) → ArePlaces (take i vs) m → slice_get vs i ≡ Some v → is_some (get nat_eq m v) ≡ true → ArePlaces (take (i + 1) vs) m
places-kept vs i v m h is there q =
    let next : place_in (take (i + 1) vs) q ≡ or_else (place_in (take i vs) q) (cond (eqb q v) (Some (0 + length (take i vs))) None) =
    ap (λ (us : List ℕ). place_in us q) (take-next vs i v is) ∙ position-push q v 0 (take i vs) in
    elim (cases_eq q v) [
      | inl same ↦
          let placed : is_some (place_in (take i vs) q) ≡ true = ap is_some (sym (h q)) ∙ ap (λ (w : ℕ). is_some (get nat_eq m w)) same ∙ there in
          h q ∙ sym (next ∙ or_else-some (place_in (take i vs) q) (cond (eqb q v) (Some (0 + length (take i vs))) None) placed)
      | inr other ↦
          h q ∙ sym (next
          ∙ ap (λ (t : Bool). or_else (place_in (take i vs) q) (cond t (Some (0 + length (take i vs))) None)) (ne_eqb q v other)
          ∙ or_else-none (place_in (take i vs) q))
    ]

-- what tests for a place tests for the variable
pub tests-same : (vs : List ℕ) (m : PlaceMap) → ArePlaces vs m → ◌≡◌ {A = ℕ → Bool} (λ v. is_some (get nat_eq m v)) (λ v. is_in v vs)
tests-same vs m h = λ i v. (ap is_some (h v) ∙ place-some v 0 vs) i

-- what a map has nothing at
pub get-none : (m : PlaceMap) (v : ℕ) → false ≡ is_some (get nat_eq m v) → get nat_eq m v ≡ None
get-none m v h = none (get nat_eq m v) (sym h)
  where
    none : (o : Option ℕ) → is_some o ≡ false → o ≡ None
    none None h = refl
    none (Some n) h = absurd (cc)
