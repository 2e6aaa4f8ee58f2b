-- Rising ids.
use Rattle.std.proofs.Common.{◌≡◌, ◌≢◌, ℕ, zero, suc, ◌+◌, ◌-◌, ◌<◌, ◌≤◌, inl, inr, List, [], ◌∷◌, ◌++◌, length, take, drop, get_or, ◌∙◌, ap, arith}
use Rattle.std.specs.List.{All}
use Rattle.std.proofs.lemmas.Bool.{cases_lt}
use Rattle.std.proofs.lemmas.List.{get_or-take, get_or_default, length-take}
use Rattle.qv_cnf.specs.Listing.{next_id, Rises}

-- one more id
pub Rises-push : (low : ℕ) (ids : List ℕ) (id : ℕ) → Rises low ids → next_id ids ≤ id → low ≤ id → Rises low (ids ++ id ∷ [])
Rises-push low [] id r n l = (l, tt)
Rises-push low (x ∷ xs) id r n l = (r.0, Rises-push (x + 1) xs id r.1 (omega arith) (omega arith))

-- the first n ids
pub Rises-take : (low n : ℕ) (ids : List ℕ) → Rises low ids → Rises low (take n ids)
Rises-take low zero ids r = tt
Rises-take low (suc n) [] r = tt
Rises-take low (suc n) (x ∷ xs) r = (r.0, Rises-take (x + 1) n xs r.1)

-- each id is at least the bound
pub Rises-low : (low : ℕ) (ids : List ℕ) (k : ℕ) → Rises low ids → k < length ids → low ≤ get_or ids k 0
Rises-low low [] k r h = omega arith
Rises-low low (x ∷ xs) zero r h = r.0
Rises-low low (x ∷ xs) (suc k) r h = let rest : x + 1 ≤ get_or xs k 0 = Rises-low (x + 1) xs k r.1 (omega arith) in omega (arith, r.0)

-- and greater than those before
pub Rises-lt : (low : ℕ) (ids : List ℕ) (j k : ℕ) → Rises low ids → j < k → k < length ids → get_or ids j 0 < get_or ids k 0
Rises-lt low [] j k r l h = omega arith
Rises-lt low (x ∷ xs) j zero r l h = omega arith
Rises-lt low (x ∷ xs) zero (suc k) r l h = omega (arith, Rises-low (x + 1) xs k r.1 (omega arith))
Rises-lt low (x ∷ xs) (suc j) (suc k) r l h = Rises-lt (x + 1) xs j k r.1 (omega arith) (omega arith)

-- the ids before the last that is below a bound are below it
pub front_below : (ids : List ℕ) (n id : ℕ) → Rises 0 ids → n ≤ length ids → (0 < n → get_or ids (n - 1) 0 < id) → All (λ other. other < id) (take n ids)
front_below ids n id r h below k d l =
    let size : length (take n ids) ≤ n = omega (arith, length-take n ids) in
    let at : get_or (take n ids) k d ≡ get_or ids k 0 = get_or-take n ids k d (omega arith) ∙ get_or_default ids k d 0 (omega arith) in
    let top : get_or ids (n - 1) 0 < id = below (omega arith) in
    elim (cases_lt k (n - 1)) [
      | inl m ↦ let lower : get_or ids k 0 < get_or ids (n - 1) 0 = Rises-lt 0 ids k (n - 1) r m (omega arith) in rw at (omega arith)
      | inr m ↦ let here : k ≡ n - 1 = omega arith in rw (at, here) top
    ]
