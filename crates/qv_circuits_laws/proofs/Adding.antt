-- What the routines of sums and comparisons compute.
use Rattle.std.proofs.Common.{◌≡◌, ℕ, suc, ◌+◌, ◌*◌, ◌/◌, ◌%◌, ◌^◌, ◌≤◌, ◌<◌, ◌&&◌, ◌||◌, Bool, true, false, not, cond, List, [], ◌∷◌, length, refl, sym, ap, ◌∙◌, subst, arith}
use Rattle.std.proofs.lemmas.Nat.{pow-add, mod-mul-add, div-mul-add}
use Rattle.qv_words.specs.Op.{truth}
use Rattle.qv_words.specs.Gate.{Lit, XorGate, MajGate, lit_value, gate_value}
use Rattle.qv_words.specs.Routine.{add}
use Rattle.qv_circuits_laws.specs.CircuitLaws.{number_of}
use Rattle.qv_circuits_laws.proofs.Evaluations.{Computes, done-computes, then-computes, gate-computes}

-- a power of two of one more
pub double : (n : ℕ) → 2 ^ suc n ≡ 2 * 2 ^ n
double n =
    let one : suc n ≡ 1 + n = omega arith in
    ap (λ k. 2 ^ k) one ∙ pow-add 2 1 n

-- one bit of a sum, with its carry
sum-table : (a b c : Bool) → truth (cond (cond a (not b) b) (not c) c) + 2 * truth ((a && b) || (a && c) || (b && c)) ≡ truth a + truth b + truth c
sum-table true true true = refl
sum-table true true false = refl
sum-table true false true = refl
sum-table true false false = refl
sum-table false true true = refl
sum-table false true false = refl
sum-table false false true = refl
sum-table false false false = refl

bit-of-sum : (v : ℕ → Bool) (a b c x s m : Lit) → lit_value v x ≡ gate_value v (XorGate a b) → lit_value v s ≡ gate_value v (XorGate x c) → lit_value v m ≡ gate_value v (MajGate a b c) → truth (lit_value v s) + 2 * truth (lit_value v m) ≡ truth (lit_value v a) + truth (lit_value v b) + truth (lit_value v c)
bit-of-sum v a b c x s m hx hs hm = rw (hs, hx, hm) (sum-table (lit_value v a) (lit_value v b) (lit_value v c))

-- the sum's number and its carry above it
abbrev pub SumOf : (ℕ → Bool) → ℕ → ℕ → List Lit × Lit → Type 0
SumOf v w total r = (length r.0 ≡ w) × (number_of v r.0 + 2 ^ w * truth (lit_value v r.1) ≡ total)

next-bit : (ts tm ta tb tc s a b p k : ℕ) → ts + 2 * tm ≡ ta + tb + tc → s + p * k ≡ a + b + tm → ts + 2 * s + 2 * p * k ≡ ta + 2 * a + (tb + 2 * b) + tc
next-bit ts tm ta tb tc s a b p k h g = omega (arith, h, g)

pub add-computes : {v : ℕ → Bool} {n : ℕ} (a b : List Lit) (c : Lit) → length a ≡ length b → Computes v n (add a b c) (SumOf v (length a) (number_of v a + number_of v b + truth (lit_value v c)))
unfolding add
add-computes {v} {n} [] [] c h = done-computes ([], c) (refl, omega arith)
add-computes {v} {n} [] (b ∷ bs) c h = absurd (omega (arith, h))
add-computes {v} {n} (a ∷ as') [] c h = absurd (omega (arith, h))
add-computes {v} {n} (a ∷ as') (b ∷ bs) c h =
    let same : length as' ≡ length bs = omega (arith, h) in
    then-computes (gate-computes (XorGate a b)) (λ i x hx.
    then-computes (gate-computes (XorGate x c)) (λ j s hs.
    then-computes (gate-computes (MajGate a b c)) (λ k m hm.
    then-computes (add-computes as' bs m same) (λ l r hr.
    let one = bit-of-sum v a b c x s m hx hs hm in
    let power = double (length as') in
    let total = next-bit (truth (lit_value v s)) (truth (lit_value v m)) (truth (lit_value v a)) (truth (lit_value v b)) (truth (lit_value v c)) (number_of v r.0) (number_of v as') (number_of v bs) (2 ^ length as') (truth (lit_value v r.1)) one hr.1 in
    done-computes (s ∷ r.0, r.1) (ap suc hr.0, ap (λ p. truth (lit_value v s) + 2 * number_of v r.0 + p * truth (lit_value v r.1)) power ∙ total)))))

-- the number of so many bits
pub truth-below : (b : Bool) → truth b ≤ 1
truth-below true = omega arith
truth-below false = omega arith

pub number-below : (v : ℕ → Bool) (a : List Lit) → number_of v a < 2 ^ length a
number-below v [] = omega arith
number-below v (l ∷ ls) = omega (arith, double (length ls), truth-below (lit_value v l), number-below v ls)

-- a sum as a remainder and a quotient
pub parts-of : (p x k total : ℕ) → x < p → x + p * k ≡ total → (x ≡ total % p) × (k ≡ total / p)
parts-of p x k total low e =
    let whole : total ≡ k * p + x = omega (arith, e) in (
      sym (ap (λ n. n % p) whole ∙ mod-mul-add k p x low),
      sym (ap (λ n. n / p) whole ∙ div-mul-add k p x low),
    )

pub sum-parts : (v : ℕ → Bool) (w total : ℕ) (r : List Lit × Lit) → SumOf v w total r → (number_of v r.0 ≡ total % 2 ^ w) × (truth (lit_value v r.1) ≡ total / 2 ^ w)
sum-parts v w total r h =
    parts-of (2 ^ w) (number_of v r.0) (truth (lit_value v r.1)) total (subst (λ (k : ℕ). number_of v r.0 < 2 ^ k) h.0 (number-below v r.0)) h.1
