-- The exponent of a power of two, by the zeros that end its digits.
use Rattle.std.proofs.Common.{◌≡◌, ℕ, zero, suc, ◌-◌, ◌*◌, ◌%◌, ◌^◌, ◌≤◌, ◌<◌, ◌==◌, Bool, true, false, cond, Option, Some, None, inl, inr, refl, sym, ap, ◌∙◌, subst, arith}
use Rattle.std.specs.Int.{w128, trailing_zeros}
use Rattle.std.proofs.lemmas.Bool.{cases_lt, cases_eq, eqb-true, eqb-false, ne_eqb}
use Rattle.std.proofs.lemmas.Nat.{pow_pos, pow_below, one_shl}
use Rattle.std.proofs.lemmas.Nat.Bits.{bit_at-trailing_zeros, bit_at-pow_other}
use Rattle.qv_words.specs.declared.sort.Sort.{Sort}
use Rattle.qv_words.specs.declared.op.Op.TheVariants.{BvAnd}
use Rattle.qv_words.specs.Sort.{width_of}
use Rattle.qv_rewrite_passes.specs.declared.outcome.Outcome.TheVariants.{Argument, Number, Under}
use Rattle.qv_rewrite_passes.specs.Simps.{power_in, at_powers}
use Rattle.qv_rewrite_passes.proofs.Tables.{power-is}

-- a power's only bit
zeros-of : (k : ℕ) → k < 128 → trailing_zeros w128 (2 ^ k) ≡ k
zeros-of k low =
    let parts = bit_at-trailing_zeros w128 (2 ^ k) (pow_pos k) (pow_below k 128 low) in
    elim (cases_eq (trailing_zeros w128 (2 ^ k)) k) [
      | inl same ↦ same
      | inr other ↦ absurd (let clash : 0 ≡ 1 = sym (bit_at-pow_other k (trailing_zeros w128 (2 ^ k)) other) ∙ parts.1 in omega (arith, clash))
    ]

power-there : (w n k : ℕ) → k < w → n ≡ 2 ^ k → Some k ≡ power_in w n
power-there zero n k low e = absurd (omega (arith, low))
power-there (suc w) n k low e = go (power-there w n k) (n == 2 ^ w) refl
  where
    go : (k < w → n ≡ 2 ^ k → Some k ≡ power_in w n) → (b : Bool) → (n == 2 ^ w) ≡ b → Some k ≡ cond b (Some w) (power_in w n)
    go others true is = elim (cases_lt k w) [
      | inl less ↦ absurd (let more : 2 ^ k < 2 ^ w = pow_below k w less in let same : n ≡ 2 ^ w = eqb-true n (2 ^ w) is in omega (arith, more, same, e))
      | inr most ↦ ap Some (let last : k ≡ w = omega (arith, low, most) in last)
    ]
    go others false is = elim (cases_lt k w) [
      | inl less ↦ others less e
      | inr most ↦ absurd (let last : k ≡ w = omega (arith, low, most) in eqb-false n (2 ^ w) is (e ∙ ap (λ j. 2 ^ j) last))
    ]

pub power-found : (w n k : ℕ) → w ≤ 128 → k < w → n ≡ 1 * 2 ^ k % 2 ^ 128 → Some k ≡ power_in w n
power-found w n k high low e = power-there w n k low (e ∙ one_shl k 128 (let h : k < 128 = omega (arith, low, high) in h))

pub power-none : (w n : ℕ) → w ≤ 128 → (trailing_zeros w128 n < w → n ≡ 1 * 2 ^ trailing_zeros w128 n % 2 ^ 128 → ⊥) → None ≡ power_in w n
power-none w n high none = go (power_in w n) refl
  where
    go : (q : Option ℕ) → power_in w n ≡ q → None ≡ q
    go None is = refl
    go (Some k) is =
        let parts = power-is w n k is in
        let low : k < 128 = (let below : k < w = parts.0 in omega (arith, below, high)) in
        let zeros : trailing_zeros w128 n ≡ k = ap (trailing_zeros w128) parts.1 ∙ zeros-of k low in
        let same : n ≡ 1 * 2 ^ k % 2 ^ 128 = parts.1 ∙ sym (one_shl k 128 low) in
        absurd (none (subst (λ m. m < w) (sym zeros) parts.0) (same ∙ ap (λ m. 1 * 2 ^ m % 2 ^ 128) (sym zeros)))

-- the mask of a remainder is one less than the power
pub rest-power : (s : Sort) (n k : ℕ) → (n ≡ 0 → ⊥) → (n ≡ 1 → ⊥) → power_in (width_of s) n ≡ Some k → Some (Under BvAnd (n - 1)) ≡ at_powers s n Argument (Number 0) (λ k. Under BvAnd (2 ^ k - 1))
rest-power s n k some more e = rw (ne_eqb n 0 some, ne_eqb n 1 more, e) (ap (λ m. Some (Under BvAnd (m - 1))) (power-is (width_of s) n k e).1)
