-- A part that grows beside its list.
use Rattle.std.proofs.Common.{List, [], ◌∷◌, ◌++◌, inl, inr, refl, ap}
use Rattle.qv_solve_offer.specs.Parts.{IsPart}

-- nothing is a part of any list
pub part-none : {A : Type 0} (ys : List A) → IsPart [] ys
part-none [] = refl
part-none (y ∷ ys) = inl (part-none ys)

-- one more of the list, which isn't taken
pub part-passes : {A : Type 0} (xs ys : List A) (z : A) → IsPart xs ys → IsPart xs (ys ++ z ∷ [])
part-passes xs [] z h = inl h
part-passes xs (y ∷ ys) z (inl h) = inl (part-passes xs ys z h)
part-passes xs (y ∷ ys) z (inr h) = inr (h.0, h.1, part-passes h.0 ys z h.2)

-- or is
pub part-takes : {A : Type 0} (xs ys : List A) (z : A) → IsPart xs ys → IsPart (xs ++ z ∷ []) (ys ++ z ∷ [])
part-takes xs [] z h = inr ([], ap (λ zs. zs ++ z ∷ []) h, refl)
part-takes xs (y ∷ ys) z (inl h) = inl (part-takes xs ys z h)
part-takes xs (y ∷ ys) z (inr h) = inr (h.0 ++ z ∷ [], ap (λ zs. zs ++ z ∷ []) h.1, part-takes h.0 ys z h.2)
