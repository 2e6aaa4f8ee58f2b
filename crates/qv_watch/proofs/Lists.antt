-- Elements of lists, at their places.
use Rattle.std.proofs.Common.{◌≡◌, ◌≢◌, ℕ, zero, suc, List, [], ◌∷◌, ◌++◌, length, take, set, None, Some, ◌⊎◌, inl, inr, refl, sym, ap}
use Rattle.std.specs.List.{slice_get}
use Rattle.std.specs.Prelude.{Ok, Err, Result, OnErr}
use Rattle.std.proofs.lemmas.Option.{none-some, same_Some}

-- an element stays where the list grows
pub slice_get-append : {X : Type 0} (xs ys : List X) (k : ℕ) (x : X) → slice_get xs k ≡ Some x → slice_get (xs ++ ys) k ≡ Some x
slice_get-append [] ys k x h = absurd (none-some x h)
slice_get-append (y ∷ xs) ys zero x h = h
slice_get-append (y ∷ xs) ys (suc k) x h = slice_get-append xs ys k x h

-- the new element stands at the end
pub slice_get-last : {X : Type 0} (xs : List X) (y : X) → slice_get (xs ++ y ∷ []) (length xs) ≡ Some y
slice_get-last [] y = refl
slice_get-last (x ∷ xs) y = slice_get-last xs y

-- each element is an old one or the new one
pub slice_get-push : {X : Type 0} (xs : List X) (y : X) (k : ℕ) (x : X) → slice_get (xs ++ y ∷ []) k ≡ Some x → (slice_get xs k ≡ Some x) ⊎ ((k ≡ length xs) × (y ≡ x))
slice_get-push [] y zero x h = inr (refl, same_Some y x h)
slice_get-push [] y (suc k) x h = absurd (none-some x h)
slice_get-push (z ∷ xs) y zero x h = inl h
slice_get-push (z ∷ xs) y (suc k) x h = elim (slice_get-push xs y k x h) [
  | inl old ↦ inl old
  | inr new ↦ inr (ap suc new.0, new.1)
]

pub slice_get-set_other : {X : Type 0} (xs : List X) (i : ℕ) (y : X) (k : ℕ) → k ≢ i → slice_get (set xs i y) k ≡ slice_get xs k
slice_get-set_other [] i y k h = refl
slice_get-set_other (x ∷ xs) zero y zero h = absurd (h refl)
slice_get-set_other (x ∷ xs) zero y (suc k) h = refl
slice_get-set_other (x ∷ xs) (suc i) y zero h = refl
slice_get-set_other (x ∷ xs) (suc i) y (suc k) h = slice_get-set_other xs i y k (λ e. h (ap suc e))

pub slice_get-set_same : {X : Type 0} (xs : List X) (i : ℕ) (y x : X) → slice_get (set xs i y) i ≡ Some x → y ≡ x
slice_get-set_same [] i y x h = absurd (none-some x h)
slice_get-set_same (z ∷ xs) zero y x h = same_Some y x h
slice_get-set_same (z ∷ xs) (suc i) y x h = slice_get-set_same xs i y x h

-- one element more of the front
pub take_next : {X : Type 0} (xs : List X) (n : ℕ) (x : X) → slice_get xs n ≡ Some x → take (suc n) xs ≡ take n xs ++ x ∷ []
take_next [] n x h = absurd (none-some x h)
take_next (y ∷ xs) zero x h = let same : y ≡ x = same_Some y x h in ap (λ z. z ∷ []) same
take_next (y ∷ xs) (suc n) x h = ap (λ zs. y ∷ zs) (take_next xs n x h)

-- no element more
pub take_past : {X : Type 0} (xs : List X) (n : ℕ) → slice_get xs n ≡ None → take (suc n) xs ≡ take n xs
take_past [] zero h = refl
take_past [] (suc n) h = refl
take_past (y ∷ xs) zero h = absurd (none-some y (sym h))
take_past (y ∷ xs) (suc n) h = ap (λ zs. y ∷ zs) (take_past xs n h)

pub on_err : {T E P : Type 0} (r : Result T E) → P → OnErr r P
on_err (Ok x) p = tt
on_err (Err e) p = p
