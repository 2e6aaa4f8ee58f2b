-- Sets of variables.
use Rattle.std.proofs.Common.{◌≡◌, ◌≢◌, ℕ, suc, ◌+◌, ◌<◌, ◌≤◌, Bool, true, false, List, ◌∷◌, length, drop, get_or, set, eqb, sym, ◌∙◌, ap, arith, inl, inr, add-one}
use Rattle.std.proofs.Math.Seq.{drop-cons}
use Rattle.std.proofs.Math.ListN.{get_or-eq_default}
use Rattle.std.proofs.lemmas.Bool.{cases_Bool, cases_eq, eqb-true, false≢true, or_cases}
use Rattle.std.proofs.lemmas.List.{drop_all, get_or-set_other, get_or-set_same}
use Rattle.qv_learn.specs.Marking.{marked}

-- the next variable, and those behind it
first_dropped : (list : List ℕ) (i x : ℕ) → i < length list → x ≡ get_or list i 0 → drop i list ≡ x ∷ drop (i + 1) list
first_dropped list i x within is = rw (add-one, drop-cons list i 0 within) (ap (λ y. y ∷ drop (suc i) list) (sym is))

-- a variable other than the next
still_left : (list : List ℕ) (i x v : ℕ) → i < length list → x ≡ get_or list i 0 → v ≢ x → marked (drop i list) v ≡ true → marked (drop (i + 1) list) v ≡ true
still_left list i x v within is other h = elim (or_cases (eqb x v) (marked (drop (i + 1) list) v) (ap (λ xs. marked xs v) (sym (first_dropped list i x within is)) ∙ h)) [
  | inl same ↦ absurd (other (sym (eqb-true x v same)))
  | inr later ↦ later
]

-- its flag is taken away
pub unflags_one : (flags : List Bool) (list : List ℕ) (i x : ℕ) → i < length list → x ≡ get_or list i 0 → x < length flags → ((v : ℕ) → get_or flags v false ≡ true → marked (drop i list) v ≡ true) → (v : ℕ) → get_or (set flags x false) v false ≡ true → marked (drop (i + 1) list) v ≡ true
unflags_one flags list i x within is there h v on = elim (cases_eq v x) [
  | inl same ↦ absurd (false≢true (sym (ap (λ k. get_or (set flags x false) k false) same ∙ get_or-set_same flags x false false there) ∙ on))
  | inr other ↦ still_left list i x v within is other (h v (sym (get_or-set_other flags x v false false other) ∙ on))
]

-- or it had none
pub unflags_none : (flags : List Bool) (list : List ℕ) (i x : ℕ) → i < length list → x ≡ get_or list i 0 → length flags ≤ x → ((v : ℕ) → get_or flags v false ≡ true → marked (drop i list) v ≡ true) → (v : ℕ) → get_or flags v false ≡ true → marked (drop (i + 1) list) v ≡ true
unflags_none flags list i x within is behind h v on = elim (cases_eq v x) [
  | inl same ↦ absurd (false≢true (sym (get_or-eq_default flags false (omega arith)) ∙ on))
  | inr other ↦ still_left list i x v within is other (h v on)
]

-- at the end there are no flags
pub unflags_all : (flags : List Bool) (list : List ℕ) (i : ℕ) → length list ≤ i → ((v : ℕ) → get_or flags v false ≡ true → marked (drop i list) v ≡ true) → (v : ℕ) → get_or flags v false ≡ false
unflags_all flags list i end h v = elim (cases_Bool (get_or flags v false)) [
  | inl on ↦ absurd (false≢true (ap (λ xs. marked xs v) (sym (drop_all i list end)) ∙ h v on))
  | inr off ↦ off
]
