-- Where all places are kept, nothing is left out.
use Rattle.std.proofs.Common.{◌≡◌, ℕ, suc, ◌==◌, ◌||◌, Bool, true, false, cond, not, List, [], ◌∷◌, refl, ap, ◌∙◌, arith}
use Rattle.std.proofs.lemmas.Bool.Decides.{nat_tests}
use Rattle.qv_core.specs.Without.{is_among, without_from, without, dropped}

among-first : (n : ℕ) (ns : List ℕ) → is_among (n ∷ ns) n ≡ true
among-first n ns =
    let same : (n == n) ≡ true = grind (arith, nat_tests) in
    ap (λ b. b || is_among ns n) same

among-behind : (m : ℕ) (ns : List ℕ) (n : ℕ) → is_among ns n ≡ true → is_among (m ∷ ns) n ≡ true
among-behind m ns n h = go (m == n)
  where
    go : (b : Bool) → (b || is_among ns n) ≡ true
    go true = refl
    go false = h

none-dropped : (kept ns : List ℕ) → ((n : ℕ) → is_among ns n ≡ true → is_among kept n ≡ true) → dropped ns kept ≡ []
none-dropped kept [] h = refl
none-dropped kept (n ∷ ns) h =
    ap (λ b. cond (not b) (n ∷ dropped ns kept) (dropped ns kept)) (h n (among-first n ns))
    ∙ none-dropped kept ns (λ m k. h m (among-behind n ns m k))

none-out : {A : Type 0} (n : ℕ) (xs : List A) → without_from [] n xs ≡ xs
none-out n [] = refl
none-out n (x ∷ xs) = ap (λ ys. x ∷ ys) (none-out (suc n) xs)

pub all-kept : {A : Type 0} (ns : List ℕ) (xs : List A) → without (dropped ns ns) xs ≡ xs
all-kept ns xs = ap (λ out. without out xs) (none-dropped ns ns (λ n h. h)) ∙ none-out 0 xs
