-- Bits that are each as in a number are that number.
use Rattle.std.proofs.Common.{◌≡◌, ℕ, suc, ◌+◌, ◌*◌, ◌/◌, ◌%◌, ◌^◌, ◌<◌, ◌==◌, Bool, true, false, not, cond, [], ◌∷◌, length, refl, sym, ap, ◌∙◌, subst, arith}
use Rattle.std.proofs.lemmas.Bool.Decides.{nat_tests}
use Rattle.std.proofs.lemmas.Nat.Bits.{bit_at_lowest, bit_at-suc}
use Rattle.qv_words.specs.Op.{truth}
use Rattle.qv_words.specs.Gate.{Lit, neg, lit_value}
use Rattle.qv_circuits_laws.specs.CircuitLaws.{number_of}
use Rattle.qv_circuits_laws.proofs.Adding.{double}
use Rattle.qv_circuits_laws.proofs.Gates.{neg-value}
use Rattle.qv_game_entry_laws.specs.QueryLaws.{FixedBitsGiveTheirValue}

not-true : (b : Bool) → not b ≡ true → b ≡ false
not-true true e = absurd (cc)
not-true false e = refl

-- the low bit
pub low-bit : (v : ℕ → Bool) (b : Lit) (n : ℕ) → lit_value v (cond (n % 2 == 1) b (neg b)) ≡ true → truth (lit_value v b) ≡ n % 2
low-bit v b n h = go (n % 2 == 1) refl h
  where
    go : (k : Bool) → (n % 2 == 1) ≡ k → lit_value v (cond k b (neg b)) ≡ true → truth (lit_value v b) ≡ n % 2
    go true is e = let odd : n % 2 ≡ 1 = grind (arith, nat_tests) in ap truth e ∙ sym odd
    go false is e =
        let even : n % 2 ≡ 0 = grind (arith, nat_tests) in
        ap truth (not-true (lit_value v b) (sym (neg-value v b) ∙ e)) ∙ sym even

pub fixed-value : FixedBitsGiveTheirValue
fixed-value v [] n h f = omega (arith, h)
fixed-value v (b ∷ bs) n h f =
    let wide : n < 2 * 2 ^ length bs = subst (λ (k : ℕ). n < k) (double (length bs)) h in
    let half : n / 2 < 2 ^ length bs = omega (arith, wide) in
    let low : truth (lit_value v b) ≡ n % 2 = low-bit v b n (subst (λ (k : ℕ). lit_value v (cond (k == 1) b (neg b)) ≡ true) (bit_at_lowest n) (f 0 b refl)) in
    let rest : number_of v bs ≡ n / 2 =
    fixed-value v bs (n / 2) half (λ i c e. subst (λ (k : ℕ). lit_value v (cond (k == 1) c (neg c)) ≡ true) (bit_at-suc n i) (f (suc i) c e)) in
    let whole : truth (lit_value v b) + 2 * number_of v bs ≡ n = omega (arith, low, rest) in
    whole
