-- Numbers by their digits.
use Rattle.std.proofs.Common.{◌≡◌, ◌≤◌, ◌<◌, ◌+◌, ◌*◌, ◌^◌, ℕ, zero, suc, true, false, cond, Option, Some, None, List, [], ◌∷◌, length, drop, get_or, refl, sym, ap, subst, ◌∙◌, add-one, drop-cons, arith}
use Rattle.std.specs.Prelude.{fold, nat_lt}
use Rattle.std.proofs.lemmas.Bool.Decides.{nat_tests}
use Rattle.std.proofs.Math.Nat.{mul-le-mul_left, mul-one}
use Rattle.qv_elab_defs.specs.Tokens.{digit_value, number_of}

-- the number of these digits behind one
abbrev pub number_from : ℕ → ℕ → List ℕ → ℕ
number_from base v ds = fold (λ n b. n * base + digit_value b) v ds

grows : (base : ℕ) → 1 ≤ base → (ds : List ℕ) (v : ℕ) → v ≤ number_from base v ds
grows base one [] v = omega arith
grows base one (d ∷ ds) v =
    let more = grows base one ds (v * base + digit_value d) in
    let up : v * 1 ≤ v * base = mul-le-mul_left v one in
    let same : v * 1 ≡ v = mul-one v in
    omega (arith, more, up, same)

pub one-digit : (base : ℕ) (ds : List ℕ) (i v : ℕ) → i < length ds → number_from base v (drop i ds) ≡ number_from base (v * base + digit_value (get_or ds i 0)) (drop (i + 1) ds)
one-digit base ds i v lt = rw (add-one, drop-cons ds i 0)

abbrev small : ℕ → Option ℕ
small n = cond (nat_lt n (2 ^ 128)) (Some n) None

too-large : (base : ℕ) → 1 ≤ base → (ds rest : List ℕ) (v : ℕ) → 2 ^ 128 ≤ v → number_from base v rest ≡ number_of base ds → None ≡ small (number_of base ds)
too-large base one ds rest v le e =
    let more = grows base one rest v in
    let large : nat_lt (number_of base ds) (2 ^ 128) ≡ false = at (number_of base ds) (omega (arith, more, e)) in
    sym (ap (λ b. cond b (Some (number_of base ds)) None) large)
  where
    at : (n : ℕ) → 2 ^ 128 ≤ n → nat_lt n (2 ^ 128) ≡ false
    at n h = grind (arith, nat_tests)

pub small-enough : (base : ℕ) (ds : List ℕ) (v : ℕ) → v < 2 ^ 128 → v ≡ number_of base ds → Some v ≡ small (number_of base ds)
small-enough base ds v lt e =
    ap Some e ∙ sym (ap (λ b. cond b (Some (number_of base ds)) None) (at (number_of base ds) (subst (λ n. n < 2 ^ 128) e lt)))
  where
    at : (n : ℕ) → n < 2 ^ 128 → nat_lt n (2 ^ 128) ≡ true
    at n h = grind (arith, nat_tests)

pub overflows : (base : ℕ) → 1 ≤ base → (ds : List ℕ) (i v : ℕ) → i < length ds → 2 ^ 128 ≤ v * base + digit_value (get_or ds i 0) → number_from base v (drop i ds) ≡ number_of base ds → None ≡ small (number_of base ds)
overflows base one ds i v lt le e = too-large base one ds (drop (i + 1) ds) (v * base + digit_value (get_or ds i 0)) le (sym (one-digit base ds i v lt) ∙ e)

nothing-left : (ds : List ℕ) (i : ℕ) → length ds ≤ i → drop i ds ≡ []
nothing-left [] zero le = refl
nothing-left [] (suc i) le = refl
nothing-left (d ∷ ds) zero le = absurd (omega (arith, le))
nothing-left (d ∷ ds) (suc i) le = nothing-left ds i (omega (arith, le))

pub all-read : (base : ℕ) (ds : List ℕ) (i v : ℕ) → length ds ≤ i → v < 2 ^ 128 → number_from base v (drop i ds) ≡ number_of base ds → Some v ≡ small (number_of base ds)
all-read base ds i v le lt e = small-enough base ds v lt (sym (ap (λ rest. number_from base v rest) (nothing-left ds i le)) ∙ e)
