-- Parts of a list, computed.
use Rattle.std.proofs.Common.{◌≡◌, ℕ, List, [], ◌∷◌, inl, inr, refl}
use Rattle.qv_solve_offer.specs.Parts.{IsPart}

-- the first and the last of three
first_and_last : IsPart {A = ℕ} (1 ∷ 3 ∷ []) (1 ∷ 2 ∷ 3 ∷ [])
first_and_last = inr (3 ∷ [], refl, inl (inr ([], refl, refl)))

-- the order is that of the list
not_turned_round : IsPart {A = ℕ} (3 ∷ 1 ∷ []) (1 ∷ 3 ∷ []) → ⊥
not_turned_round (inl (inl h)) = cc
not_turned_round (inl (inr h)) =
    let none = h.2 in
    let front = h.1 in
    cc
not_turned_round (inr h) =
    let front = h.1 in
    cc

-- and each comes as often as it stands there
not_twice : IsPart {A = ℕ} (1 ∷ 1 ∷ []) (1 ∷ 2 ∷ []) → ⊥
not_twice (inl (inl h)) = cc
not_twice (inl (inr h)) =
    let front = h.1 in
    cc
not_twice (inr h) =
    let front = h.1 in
    let rest = h.2 in
    one_of_two h.0 (let same : h.0 ≡ 1 ∷ [] = cc in same) rest
  where
    one_of_two : (xs : List ℕ) → xs ≡ 1 ∷ [] → IsPart {A = ℕ} xs (2 ∷ []) → ⊥
    one_of_two xs e (inl h) = cc
    one_of_two xs e (inr h) =
        let front = h.1 in
        cc
