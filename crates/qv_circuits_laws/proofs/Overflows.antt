-- What goes past a width.
use Rattle.std.proofs.Common.{◌≡◌, ℕ, zero, suc, ◌+◌, ◌-◌, ◌*◌, ◌/◌, ◌%◌, ◌^◌, ◌≤◌, ◌<◌, ◌==◌, ◌&&◌, Bool, true, false, not, cond, nat_lt, nat_le, List, [], ◌∷◌, ◌++◌, length, take, drop, replicate, pos, negsuc, inl, inr, refl, sym, ap, ◌∙◌, subst, arith, bit_xor, ◌+ℤ◌, ◌-ℤ◌, ◌*ℤ◌}
use Rattle.std.proofs.lemmas.Bool.{leb-true, leb-false, eqb-true, eqb-false, ne_eqb, lt-ltb, le-ltb, lt-leb, le-leb, cases_lt}
use Rattle.std.proofs.lemmas.List.{length-map, length-replicate, length-append, length-take, length-drop}
use Rattle.std.proofs.lemmas.Nat.{pow_pos, pow-add, mod_below, mul-lt, mul-le, mod-mul-add}
use Rattle.std.proofs.Math.Nat.{mod-eq_of_lt, div-add-mod, mod_self, add-mul-mod_self_right}
use mathlib.Core.Bool.{beq}
use Rattle.qv_words.specs.Op.{truth}
use Rattle.qv_words.specs.Signed.{signed, is_negative, is_outside, magnitude}
use Rattle.qv_words.specs.Gate.{Lit, AndGate, XorGate, neg, yes, no, lit_value, xor}
use Rattle.qv_words.specs.Routine.{negs, rows, top, mul, equal, least_signed}
use Rattle.qv_words.specs.OpCircuit.{sum_overflow, signed_sum_overflow, product_overflow, signed_product_overflow, signed_difference_overflow, signed_quotient_overflow}
use Rattle.qv_circuits_laws.specs.CircuitLaws.{number_of}
use Rattle.qv_circuits_laws.proofs.Evaluations.{Computes, done-computes, then-computes, gate-computes, weaker, together}
use Rattle.qv_words.proofs.TwosComplement.{halves, signed-negative, signed-other, sum_outside, difference_outside, product_outside, magnitude-other}
use Rattle.qv_circuits_laws.proofs.Adding.{add-computes, parts-of, number-below}
use Rattle.qv_circuits_laws.proofs.Choosing.{sub-computes}
use Rattle.qv_circuits_laws.proofs.Multiplying.{row-computes, sum-computes, mul-computes, number-take}
use Rattle.qv_circuits_laws.proofs.Places.{number-append, number-zeros, number-ones, number-drop}
use Rattle.qv_circuits_laws.proofs.Shifting.{disjunction-computes}
use Rattle.qv_circuits_laws.proofs.Values.{each-computes, xor-bits, xor-none, equal-computes, top-of}
use Rattle.qv_circuits_laws.proofs.Moving.{number-fits}

-- the last carry
carry-test : (p x total : ℕ) (c : Bool) → x < p → x + p * truth c ≡ total → c ≡ nat_le p total
carry-test p x total true low e = sym (le-leb p total (omega (arith, e)))
carry-test p x total false low e = sym (lt-leb p total (omega (arith, low, e)))

pub sum_overflow-computes : {v : ℕ → Bool} {n : ℕ} (a b : List Lit) → v 1 ≡ true → length a ≡ length b → Computes v n (sum_overflow a b) (λ r. lit_value v r ≡ nat_le (2 ^ length a) (number_of v a + number_of v b))
sum_overflow-computes {v} {n} a b one h =
    then-computes (add-computes a b no h) (λ i s hs.
    let none : truth (lit_value v no) ≡ 0 = ap (λ k. truth (not k)) one in
    let low : number_of v s.0 < 2 ^ length a = subst (λ (k : ℕ). number_of v s.0 < 2 ^ k) hs.0 (number-below v s.0) in
    done-computes s.1 (carry-test (2 ^ length a) (number_of v s.0) (number_of v a + number_of v b) (lit_value v s.1) low (hs.1 ∙ omega (arith, none))))

-- a sum of two signs, and a difference of one, stays inside
mixed : (w x y : ℕ) → 1 ≤ x → x ≤ 2 ^ (w - 1) → y ≤ 2 ^ (w - 1) → (t : Bool) → is_outside w (cond t (negsuc (x - suc y)) (pos (y - x))) ≡ false
mixed w x y some f g true = lt-leb (2 ^ (w - 1)) (x - suc y) (omega (arith, f, some))
mixed w x y some f g false = lt-leb (2 ^ (w - 1)) (y - x) (omega (arith, g, some))

sum-left : (w m n : ℕ) → m < 2 ^ (w - 1) → n < 2 ^ (w - 1) → is_outside w (negsuc m +ℤ pos n) ≡ false
sum-left w m n f g = mixed w (suc m) n (omega arith) (omega (arith, f)) (omega (arith, g)) (nat_lt n (suc m))

sum-right : (w m n : ℕ) → m < 2 ^ (w - 1) → n < 2 ^ (w - 1) → is_outside w (pos n +ℤ negsuc m) ≡ false
sum-right w m n f g = mixed w (suc m) n (omega arith) (omega (arith, f)) (omega (arith, g)) (nat_lt n (suc m))

difference-others : (w m n : ℕ) → m < 2 ^ (w - 1) → n < 2 ^ (w - 1) → is_outside w (pos m -ℤ pos n) ≡ false
difference-others w m zero f g = lt-leb (2 ^ (w - 1)) (m + 0) (omega (arith, f))
difference-others w m (suc n) f g = mixed w (suc n) m (omega arith) (omega (arith, g)) (omega (arith, f)) (nat_lt m (suc n))

difference-negatives : (w m n : ℕ) → m < 2 ^ (w - 1) → n < 2 ^ (w - 1) → is_outside w (negsuc m -ℤ negsuc n) ≡ false
difference-negatives w m n f g = mixed w (suc m) (suc n) (omega arith) (omega (arith, f)) (omega (arith, g)) (nat_lt (suc n) (suc m))

sum-signs : (w a b s : ℕ) → 1 ≤ w → a < 2 ^ w → b < 2 ^ w → s ≡ (a + b) % 2 ^ w → (p q r : Bool) → p ≡ is_negative w a → q ≡ is_negative w b → r ≡ is_negative w s → (cond p (not r) r && cond q (not r) r) ≡ is_outside w (signed w a +ℤ signed w b)
sum-signs w a b s lo fa fb e true false r pa qb rs =
    let h = leb-true (2 ^ (w - 1)) a (sym pa) in
    let k = leb-false (2 ^ (w - 1)) b (sym qb) in
    let twice = halves w lo in
    both r ∙ sym (ap (λ z. is_outside w (z +ℤ signed w b)) (signed-negative w a (sym pa)) ∙ ap (λ z. is_outside w (negsuc (2 ^ w - 1 - a) +ℤ z)) (signed-other w b (sym qb))
    ∙ sum-left w (2 ^ w - 1 - a) b (omega (arith, h, fa, twice)) k)
  where
    both : (r : Bool) → (not r && r) ≡ false
    both true = refl
    both false = refl
sum-signs w a b s lo fa fb e false true r pa qb rs =
    let h = leb-false (2 ^ (w - 1)) a (sym pa) in
    let k = leb-true (2 ^ (w - 1)) b (sym qb) in
    let twice = halves w lo in
    both r ∙ sym (ap (λ z. is_outside w (z +ℤ signed w b)) (signed-other w a (sym pa)) ∙ ap (λ z. is_outside w (pos a +ℤ z)) (signed-negative w b (sym qb))
    ∙ sum-right w (2 ^ w - 1 - b) a (omega (arith, k, fb, twice)) h)
  where
    both : (r : Bool) → (r && not r) ≡ false
    both true = refl
    both false = refl
sum-signs w a b s lo fa fb e true true r pa qb rs = both r ∙ sum_outside w a b s true true r lo fa fb pa qb e rs refl
  where
    both : (r : Bool) → (not r && not r) ≡ not (beq true r)
    both true = refl
    both false = refl
sum-signs w a b s lo fa fb e false false r pa qb rs = both r ∙ sum_outside w a b s false false r lo fa fb pa qb e rs refl
  where
    both : (r : Bool) → (r && r) ≡ not (beq false r)
    both true = refl
    both false = refl

difference-signs : (w a b s : ℕ) → 1 ≤ w → a < 2 ^ w → b < 2 ^ w → s ≡ (a + 2 ^ w - b) % 2 ^ w → (p q r : Bool) → p ≡ is_negative w a → q ≡ is_negative w b → r ≡ is_negative w s → (cond p (not q) q && cond p (not r) r) ≡ is_outside w (signed w a -ℤ signed w b)
difference-signs w a b s lo fa fb e true false r pa qb rs = both r ∙ difference_outside w a b s true false r lo fa fb pa qb e rs refl
  where
    both : (r : Bool) → not r ≡ not (beq true r)
    both true = refl
    both false = refl
difference-signs w a b s lo fa fb e false true r pa qb rs = both r ∙ difference_outside w a b s false true r lo fa fb pa qb e rs refl
  where
    both : (r : Bool) → r ≡ not (beq false r)
    both true = refl
    both false = refl
difference-signs w a b s lo fa fb e true true r pa qb rs =
    let h = leb-true (2 ^ (w - 1)) a (sym pa) in
    let k = leb-true (2 ^ (w - 1)) b (sym qb) in
    let twice = halves w lo in
    sym (ap (λ z. is_outside w (z -ℤ signed w b)) (signed-negative w a (sym pa)) ∙ ap (λ z. is_outside w (negsuc (2 ^ w - 1 - a) -ℤ z)) (signed-negative w b (sym qb))
    ∙ difference-negatives w (2 ^ w - 1 - a) (2 ^ w - 1 - b) (omega (arith, h, fa, twice)) (omega (arith, k, fb, twice)))
difference-signs w a b s lo fa fb e false false r pa qb rs =
    let h = leb-false (2 ^ (w - 1)) a (sym pa) in
    let k = leb-false (2 ^ (w - 1)) b (sym qb) in
    sym (ap (λ z. is_outside w (z -ℤ signed w b)) (signed-other w a (sym pa)) ∙ ap (λ z. is_outside w (pos a -ℤ z)) (signed-other w b (sym qb))
    ∙ difference-others w a b h k)

pub signed_sum-computes : {v : ℕ → Bool} {n : ℕ} (w : ℕ) (a b : List Lit) → v 1 ≡ true → 1 ≤ w → length a ≡ w → length b ≡ w → Computes v n (signed_sum_overflow a b) (λ r. lit_value v r ≡ is_outside w (signed w (number_of v a) +ℤ signed w (number_of v b)))
signed_sum-computes {v} {n} w a b one lo ha hb =
    then-computes (sum-computes a b one (ha ∙ sym hb)) (λ i s hs.
    then-computes (gate-computes (XorGate (top a) (top s))) (λ j x hx.
    then-computes (gate-computes (XorGate (top b) (top s))) (λ k y hy.
    weaker (gate-computes (AndGate x y)) (λ r hr.
    hr ∙ ap (λ t. t && lit_value v y) hx ∙ ap (λ t. cond (lit_value v (top a)) (not (lit_value v (top s))) (lit_value v (top s)) && t) hy
    ∙ sum-signs w (number_of v a) (number_of v b) (number_of v s) lo (number-fits v w a ha) (number-fits v w b hb) (hs.1 ∙ ap (λ i. (number_of v a + number_of v b) % 2 ^ i) ha)
    (lit_value v (top a)) (lit_value v (top b)) (lit_value v (top s)) (top-of v one w a ha) (top-of v one w b hb) (top-of v one w s (hs.0 ∙ ha))))))

pub signed_difference-computes : {v : ℕ → Bool} {n : ℕ} (w : ℕ) (a b : List Lit) → v 1 ≡ true → 1 ≤ w → length a ≡ w → length b ≡ w → Computes v n (signed_difference_overflow a b) (λ r. lit_value v r ≡ is_outside w (signed w (number_of v a) -ℤ signed w (number_of v b)))
signed_difference-computes {v} {n} w a b one lo ha hb =
    let longer : length a ≡ length (negs b) = ha ∙ sym hb ∙ sym (length-map b neg) in
    then-computes (together (add-computes a (negs b) yes longer) (sub-computes a b one (ha ∙ sym hb))) (λ i s hs.
    then-computes (gate-computes (XorGate (top a) (top b))) (λ j x hx.
    then-computes (gate-computes (XorGate (top a) (top s.0))) (λ k y hy.
    weaker (gate-computes (AndGate x y)) (λ r hr.
    hr ∙ ap (λ t. t && lit_value v y) hx ∙ ap (λ t. cond (lit_value v (top a)) (not (lit_value v (top b))) (lit_value v (top b)) && t) hy
    ∙ difference-signs w (number_of v a) (number_of v b) (number_of v s.0) lo (number-fits v w a ha) (number-fits v w b hb) (hs.1 ∙ ap (λ i. (number_of v a + 2 ^ i - number_of v b) % 2 ^ i) ha)
    (lit_value v (top a)) (lit_value v (top b)) (lit_value v (top s.0)) (top-of v one w a ha) (top-of v one w b hb) (top-of v one w s.0 (hs.0.0 ∙ ha))))))

-- the least signed value, and all ones
pub least-number : (v : ℕ → Bool) → v 1 ≡ true → (w : ℕ) → 1 ≤ w → (length (least_signed w) ≡ w) × (number_of v (least_signed w) ≡ 2 ^ (w - 1))
least-number v one w lo =
    let size = length-replicate (w - 1) no in
    let long : length (replicate (w - 1) no ++ yes ∷ []) ≡ w = length-append (replicate (w - 1) no) (yes ∷ []) ∙ omega (arith, size, lo) in
    let high : truth (lit_value v yes) ≡ 1 = ap truth one in (
      long,
      number-append v (replicate (w - 1) no) (yes ∷ []) ∙ ap (λ k. k + 2 ^ length (replicate (w - 1) no) * (truth (lit_value v yes) + 2 * 0)) (number-zeros v (w - 1) no (ap not one))
          ∙ ap (λ k. 0 + 2 ^ k * (truth (lit_value v yes) + 2 * 0)) size ∙ ap (λ k. 0 + 2 ^ (w - 1) * (k + 2 * 0)) high ∙ omega arith,
    )

pub least-computes : {v : ℕ → Bool} {n : ℕ} (w : ℕ) (a : List Lit) → v 1 ≡ true → 1 ≤ w → length a ≡ w → Computes v n (equal a (least_signed (length a))) (λ r. lit_value v r ≡ (number_of v a == 2 ^ (w - 1)))
least-computes {v} {n} w a one lo ha =
    let l = least-number v one (length a) (subst (λ (i : ℕ). 1 ≤ i) (sym ha) lo) in
    weaker (equal-computes a (least_signed (length a)) one (sym l.0)) (λ r hr. hr ∙ ap (λ k. number_of v a == k) (l.1 ∙ ap (λ i. 2 ^ (i - 1)) ha))

pub signed_quotient-computes : {v : ℕ → Bool} {n : ℕ} (w : ℕ) (a b : List Lit) → v 1 ≡ true → 1 ≤ w → length a ≡ w → length b ≡ w → Computes v n (signed_quotient_overflow a b) (λ r. lit_value v r ≡ ((number_of v a == 2 ^ (w - 1)) && (number_of v b == 2 ^ w - 1)))
signed_quotient-computes {v} {n} w a b one lo ha hb =
    let ones : number_of v (replicate (length b) yes) ≡ 2 ^ w - 1 = let all = number-ones v (length b) yes one in let power : 2 ^ length b ≡ 2 ^ w = ap (λ i. 2 ^ i) hb in omega (arith, all, power) in
    then-computes (least-computes w a one lo ha) (λ i e he.
    then-computes (equal-computes b (replicate (length b) yes) one (sym (length-replicate (length b) yes))) (λ j f hf.
    weaker (gate-computes (AndGate e f)) (λ r hr.
    hr ∙ ap (λ t. t && lit_value v f) he ∙ ap (λ t. (number_of v a == 2 ^ (w - 1)) && t) (hf ∙ ap (λ k. number_of v b == k) ones))))

-- a product that has bits above its width
high-test : (p n : ℕ) → 0 < p → nat_lt 0 (n / p) ≡ nat_le p n
high-test p n some = elim (cases_lt n p) [
  | inl less ↦ le-ltb 0 (n / p) (omega (arith, (parts-of p n 0 n less (omega arith)).1)) ∙ sym (lt-leb p n less)
  | inr more ↦ lt-ltb 0 (n / p) (let whole = div-pos n p some more in whole) ∙ sym (le-leb p n more)
]
  where
    div-pos : (n p : ℕ) → 0 < p → p ≤ n → 0 < n / p
    div-pos n p some more =
        let low = mod_below n p some in
        let whole : p * (n / p) + n % p ≡ n = div-add-mod n p in
        go (n / p) whole low more
      where
        go : (q : ℕ) → p * q + n % p ≡ n → n % p < p → p ≤ n → 0 < q
        go zero e low more = absurd (omega (arith, e, low, more))
        go (suc q) e low more = omega arith

-- a number at twice the width
wide-number : (v : ℕ → Bool) (l : Lit) (w : ℕ) (a : List Lit) → length a ≡ w → (length (a ++ replicate (length a) l) ≡ w + w) × (number_of v (a ++ replicate (length a) l) ≡ number_of v a + 2 ^ w * number_of v (replicate w l))
wide-number v l w a h =
    let long = length-replicate (length a) l in
    (length-append a (replicate (length a) l) ∙ omega (arith, long, h), number-append v a (replicate (length a) l) ∙ ap (λ i. number_of v a + 2 ^ i * number_of v (replicate i l)) h)

pub product-computes : {v : ℕ → Bool} {n : ℕ} (w : ℕ) (a b : List Lit) → v 1 ≡ true → length a ≡ w → length b ≡ w → Computes v n (product_overflow a b) (λ r. lit_value v r ≡ nat_le (2 ^ w) (number_of v a * number_of v b))
product-computes {v} {n} w a b one ha hb =
    let na = number_of v a in
    let nb = number_of v b in
    let zeros : number_of v (replicate w no) ≡ 0 = number-zeros v w no (ap not one) in
    let first = wide-number v no w a ha in
    let second = wide-number v no w b hb in
    let plain : (x : ℕ) → x + 2 ^ w * 0 ≡ x = λ x. omega arith in
    let va : number_of v (a ++ replicate (length a) no) ≡ na = first.1 ∙ ap (λ k. na + 2 ^ w * k) zeros ∙ plain na in
    let vb : number_of v (b ++ replicate (length b) no) ≡ nb = second.1 ∙ ap (λ k. nb + 2 ^ w * k) zeros ∙ plain nb in
    let fits : na * nb < 2 ^ (w + w) = subst (λ (i : ℕ). na * nb < i) (sym (pow-add 2 w w)) (mul-lt na nb (2 ^ w) (2 ^ w) (number-fits v w a ha) (number-fits v w b hb)) in
    then-computes (mul-computes (a ++ replicate (length a) no) (b ++ replicate (length b) no) one) (λ i p hp.
    let whole : number_of v p ≡ na * nb =
    hp ∙ ap (λ k. number_of v (a ++ replicate (length a) no) * number_of v (b ++ replicate (length b) no) % 2 ^ k) first.0
    ∙ ap (λ k. k * number_of v (b ++ replicate (length b) no) % 2 ^ (w + w)) va ∙ ap (λ k. na * k % 2 ^ (w + w)) vb ∙ mod-eq_of_lt fits in
    weaker (disjunction-computes (drop (length a) p) one) (λ r hr.
    hr ∙ ap (nat_lt 0) (number-drop v (length a) p ∙ ap (λ k. k / 2 ^ length a) whole ∙ ap (λ k. na * nb / 2 ^ k) ha) ∙ high-test (2 ^ w) (na * nb) (pow_pos w)))

and_false : (b : Bool) → (b && false) ≡ false
and_false true = refl
and_false false = refl

-- the bits of a product of signed numbers: its high half is all sign exactly where the product fits
in-middle : (h p pp n : ℕ) → 0 < h → p ≡ h + h → pp ≡ p * p → n < pp → not (n / p == cond (nat_le h (n % p)) (p - 1) 0) ≡ (nat_le h n && nat_lt n (pp - h))
in-middle h p pp n some half whole low =
    let split : p * (n / p) + n % p ≡ n = div-add-mod n p in
    let rest : n % p < p = mod_below n p (omega (arith, some, half)) in
    let quot : n / p < p = small (n / p) (n % p) split in
    go (nat_le h (n % p)) (n / p) (n % p) refl split rest quot
  where
    small : (q r : ℕ) → p * q + r ≡ n → q < p
    small q r e = elim (cases_lt q p) [
      | inl less ↦ less
      | inr more ↦
          let d = q - p in
          let up : q ≡ p + d = omega (arith, more) in
          let big : p * q ≡ p * p + p * d = ap (λ k. p * k) up ∙ omega arith in
          absurd (omega (arith, e, big, whole, low))
    ]

    top-part : (q r : ℕ) → h ≤ r → p * q + r ≡ n → r < p → q < p → (b : Bool) → (q == p - 1) ≡ b → not b ≡ (nat_le h n && nat_lt n (pp - h))
    top-part q r high e rest quot true is =
        let same : q ≡ p - 1 = eqb-true q (p - 1) is in
        let up : p ≡ q + 1 = omega (arith, same, quot) in
        let square : p * p ≡ p * q + p = ap (λ k. p * k) up ∙ omega arith in
        sym (ap (λ b. nat_le h n && b) (le-ltb n (pp - h) (omega (arith, square, whole, e, high, half))) ∙ and_false (nat_le h n))
    top-part q r high e rest quot false is =
        let other = eqb-false q (p - 1) is in
        let d = p - q - 2 in
        let up : p ≡ q + d + 2 = omega (arith, other, quot) in
        let square : p * p ≡ p * q + p * d + (p + p) = ap (λ k. p * k) up ∙ omega arith in
        sym (ap (λ b. b && nat_lt n (pp - h)) (le-leb h n (omega (arith, e, high))) ∙ lt-ltb n (pp - h) (omega (arith, square, whole, e, rest, half, some)))

    low-part : (q r : ℕ) → r < h → p * q + r ≡ n → q < p → (b : Bool) → (q == 0) ≡ b → not b ≡ (nat_le h n && nat_lt n (pp - h))
    low-part q r under e quot true is =
        let none : q ≡ 0 = eqb-true q 0 is in
        let gone : p * q ≡ 0 = ap (λ k. p * k) none ∙ omega arith in
        sym (ap (λ b. b && nat_lt n (pp - h)) (lt-leb h n (omega (arith, gone, e, under))))
    low-part q r under e quot false is =
        let other = eqb-false q 0 is in
        let c = q - 1 in
        let one : q ≡ c + 1 = omega (arith, other) in
        let many : p * q ≡ p * c + p = ap (λ k. p * k) one ∙ omega arith in
        let d = p - q - 1 in
        let up : p ≡ q + d + 1 = omega (arith, quot) in
        let square : p * p ≡ p * q + p * d + p = ap (λ k. p * k) up ∙ omega arith in
        sym (ap (λ b. b && nat_lt n (pp - h)) (le-leb h n (omega (arith, many, e, half))) ∙ lt-ltb n (pp - h) (omega (arith, square, whole, e, under, half)))

    go : (t : Bool) (q r : ℕ) → nat_le h r ≡ t → p * q + r ≡ n → r < p → q < p → not (q == cond t (p - 1) 0) ≡ (nat_le h n && nat_lt n (pp - h))
    go true q r is e rest quot = top-part q r (leb-true h r is) e rest quot (q == p - 1) refl
    go false q r is e rest quot = low-part q r (leb-false h r is) e quot (q == 0) refl

-- the product of the bits, from that of the magnitudes
square-of : (h : ℕ) → 0 < h → h ≤ h * h
square-of zero some = absurd (omega (arith, some))
square-of (suc g) some = omega arith

fits-alike : (h p pp m : ℕ) → 0 < h → p ≡ h + h → pp ≡ p * p → m ≤ h * h → (nat_le h m && nat_lt m (pp - h)) ≡ nat_le h m
fits-alike h p pp m some half whole small =
    let square : p * p ≡ 4 * (h * h) = ap (λ k. k * k) half ∙ omega arith in
    let low = square-of h some in
    ap (λ b. nat_le h m && b) (lt-ltb m (pp - h) (omega (arith, square, whole, small, low, some))) ∙ and-true (nat_le h m)
  where
    and-true : (b : Bool) → (b && true) ≡ b
    and-true true = refl
    and-true false = refl

fits-unlike : (h p pp m : ℕ) → 0 < h → p ≡ h + h → pp ≡ p * p → m ≤ h * h → (nat_le h ((pp - m) % pp) && nat_lt ((pp - m) % pp) (pp - h)) ≡ nat_lt h m
fits-unlike h p pp zero some half whole small =
    let square : p * p ≡ 4 * (h * h) = ap (λ k. k * k) half ∙ omega arith in
    let all : pp - 0 ≡ pp = omega arith in
    let none : (pp - 0) % pp ≡ 0 = ap (λ k. k % pp) all ∙ mod_self pp in
    ap (λ k. nat_le h k && nat_lt k (pp - h)) none ∙ ap (λ b. b && nat_lt 0 (pp - h)) (lt-leb h 0 some) ∙ sym (le-ltb h 0 (omega arith))
fits-unlike h p pp (suc m) some half whole small =
    let square : p * p ≡ 4 * (h * h) = ap (λ k. k * k) half ∙ omega arith in
    let low = square-of h some in
    let is : (pp - suc m) % pp ≡ pp - suc m = mod-eq_of_lt (omega (arith, square, whole, low, some)) in
    ap (λ k. nat_le h k && nat_lt k (pp - h)) is
    ∙ ap (λ b. b && nat_lt (pp - suc m) (pp - h)) (le-leb h (pp - suc m) (omega (arith, square, whole, small, low)))
    ∙ elim (cases_lt h (suc m)) [
      | inl less ↦ lt-ltb (pp - suc m) (pp - h) (omega (arith, less, square, whole, small, low, some)) ∙ sym (lt-ltb h (suc m) less)
      | inr more ↦ le-ltb (pp - suc m) (pp - h) (omega (arith, more)) ∙ sym (le-ltb h (suc m) more)
    ]

both-negative : (pp x y a b : ℕ) → x + a ≡ pp → y + b ≡ pp → b ≤ x → a * b < pp → x * y % pp ≡ a * b
both-negative pp x y a b e f le low =
    let k = x - b in
    let xs : x ≡ k + b = omega (arith, le) in
    let ys : y ≡ k + a = omega (arith, e, f, xs) in
    let ps : pp ≡ k + b + a = omega (arith, e, xs) in
    let product : x * y ≡ k * pp + a * b = ap (λ i. i * y) xs ∙ ap (λ i. (k + b) * i) ys ∙ expand k a b ∙ ap (λ i. k * i + a * b) (sym ps) in
    ap (λ i. i % pp) product ∙ mod-mul-add k pp (a * b) low
  where
    expand : (k a b : ℕ) → (k + b) * (k + a) ≡ k * (k + b + a) + a * b
    expand k a b = omega arith

one-negative : (pp x a b : ℕ) → x + a ≡ pp → a * b ≤ pp → x * b % pp ≡ (pp - a * b) % pp
one-negative pp x a zero e fits =
    let none : x * 0 ≡ 0 = omega arith in
    let all : pp - a * 0 ≡ pp = omega arith in
    ap (λ i. i % pp) none ∙ zero-mod pp ∙ sym (ap (λ i. i % pp) all ∙ mod_self pp)
  where
    zero-mod : (m : ℕ) → 0 % m ≡ 0
    zero-mod m = omega arith
one-negative pp x a (suc b) e fits =
    let product : x * suc b + a * suc b ≡ suc b * pp = expand x a b ∙ ap (λ i. suc b * i) e in
    let split : x * suc b ≡ pp - a * suc b + b * pp = omega (arith, product, fits) in
    ap (λ i. i % pp) split ∙ add-mul-mod_self_right (pp - a * suc b) b pp
  where
    expand : (x a b : ℕ) → x * suc b + a * suc b ≡ suc b * (x + a)
    expand x a b = omega arith

-- the signed product at twice the width
magnitude-left : (w a : ℕ) → 1 ≤ w → a < 2 ^ w → is_negative w a ≡ true → magnitude w a ≡ 2 ^ w - a
magnitude-left w a lo f e =
    let high : 2 ^ (w - 1) ≤ a = leb-true (2 ^ (w - 1)) a e in
    let some : 0 < 2 ^ (w - 1) = pow_pos (w - 1) in
    ap (λ b. cond b ((2 ^ w - a) % 2 ^ w) a) e ∙ mod-eq_of_lt (omega (arith, high, some, f))

magnitude-most : (w a : ℕ) → 1 ≤ w → a < 2 ^ w → magnitude w a ≤ 2 ^ (w - 1)
magnitude-most w a lo f = go (is_negative w a) refl
  where
    go : (p : Bool) → is_negative w a ≡ p → magnitude w a ≤ 2 ^ (w - 1)
    go true e = let high : 2 ^ (w - 1) ≤ a = leb-true (2 ^ (w - 1)) a e in let twice = halves w lo in omega (arith, magnitude-left w a lo f e, high, twice)
    go false e = let low : a < 2 ^ (w - 1) = leb-false (2 ^ (w - 1)) a e in omega (arith, magnitude-other w a e, low)

-- the extended number, by the sign
abbrev Extended : Bool → (pp x m : ℕ) → Type 0
Extended true pp x m = x + m ≡ pp
Extended false pp x m = x ≡ m

extended-is : (v : ℕ → Bool) → v 1 ≡ true → (w : ℕ) (a : List Lit) → 1 ≤ w → length a ≡ w → (p : Bool) → is_negative w (number_of v a) ≡ p → Extended p (2 ^ (w + w)) (number_of v a + 2 ^ w * number_of v (replicate w (top a))) (magnitude w (number_of v a))
extended-is v one w a lo ha true e =
    let na = number_of v a in
    let low : na < 2 ^ w = number-fits v w a ha in
    let f = number_of v (replicate w (top a)) in
    let ones : f + 1 ≡ 2 ^ w = number-ones v w (top a) (top-of v one w a ha ∙ e) in
    let square : 2 ^ w * 2 ^ w ≡ 2 ^ w * f + 2 ^ w = ap (λ k. 2 ^ w * k) (sym ones) ∙ omega arith in
    let whole : 2 ^ (w + w) ≡ 2 ^ w * 2 ^ w = pow-add 2 w w in
    omega (arith, magnitude-left w na lo low e, square, whole, low)
extended-is v one w a lo ha false e =
    let na = number_of v a in
    let f = number_of v (replicate w (top a)) in
    let none : f ≡ 0 = number-zeros v w (top a) (top-of v one w a ha ∙ e) in
    ap (λ k. na + 2 ^ w * k) none ∙ (let plain : na + 2 ^ w * 0 ≡ na = omega arith in plain) ∙ sym (magnitude-other w na e)

some-not : (n : ℕ) → nat_lt 0 n ≡ not (n == 0)
some-not zero = refl
some-not (suc n) = lt-ltb 0 (suc n) (omega arith) ∙ sym (ap not (ne_eqb (suc n) 0 (λ h. omega (arith, h))))

-- the exact product decides
product-decides : (w a b x y : ℕ) (p q : Bool) → 1 ≤ w → a < 2 ^ w → b < 2 ^ w → is_negative w a ≡ p → is_negative w b ≡ q → Extended p (2 ^ (w + w)) x (magnitude w a) → Extended q (2 ^ (w + w)) y (magnitude w b) → (nat_le (2 ^ (w - 1)) (x * y % 2 ^ (w + w)) && nat_lt (x * y % 2 ^ (w + w)) (2 ^ (w + w) - 2 ^ (w - 1))) ≡ is_outside w (signed w a *ℤ signed w b)
product-decides w a b x y p q lo fa fb pa qb =
    let h = 2 ^ (w - 1) in
    let some : 0 < h = pow_pos (w - 1) in
    let half : 2 ^ w ≡ h + h = halves w lo in
    let whole : 2 ^ (w + w) ≡ 2 ^ w * 2 ^ w = pow-add 2 w w in
    let square : 2 ^ w * 2 ^ w ≡ 4 * (h * h) = ap (λ k. k * k) half ∙ omega arith in
    let low = square-of h some in
    let ma = magnitude w a in
    let mb = magnitude w b in
    let most-a : ma ≤ h = magnitude-most w a lo fa in
    let most-b : mb ≤ h = magnitude-most w b lo fb in
    let small : ma * mb ≤ h * h = mul-le ma mb h h most-a most-b in
    let below : ma * mb < 2 ^ (w + w) = omega (arith, small, whole, square, low, some) in
    go p q h some half whole ma mb small below (omega (arith, most-b, most-a, whole, square, low, some)) (product_outside w a b p q lo fa fb (sym pa) (sym qb))
  where
    go : (p q : Bool) (h : ℕ) → 0 < h → 2 ^ w ≡ h + h → 2 ^ (w + w) ≡ 2 ^ w * 2 ^ w → (ma mb : ℕ) → ma * mb ≤ h * h → ma * mb < 2 ^ (w + w) → ma + mb ≤ 2 ^ (w + w) → is_outside w (signed w a *ℤ signed w b) ≡ cond (beq p q) (nat_le h (ma * mb)) (nat_lt h (ma * mb)) → Extended p (2 ^ (w + w)) x ma → Extended q (2 ^ (w + w)) y mb → (nat_le h (x * y % 2 ^ (w + w)) && nat_lt (x * y % 2 ^ (w + w)) (2 ^ (w + w) - h)) ≡ is_outside w (signed w a *ℤ signed w b)
    go true true h some half whole ma mb small below room out ex ey =
        ap (λ n. nat_le h n && nat_lt n (2 ^ (w + w) - h)) (both-negative (2 ^ (w + w)) x y ma mb ex ey (omega (arith, ex, room)) below)
        ∙ fits-alike h (2 ^ w) (2 ^ (w + w)) (ma * mb) some half whole small ∙ sym out
    go false false h some half whole ma mb small below room out ex ey =
        ap (λ n. nat_le h n && nat_lt n (2 ^ (w + w) - h)) (ap (λ k. k * y % 2 ^ (w + w)) ex ∙ ap (λ k. ma * k % 2 ^ (w + w)) ey ∙ mod-eq_of_lt below)
        ∙ fits-alike h (2 ^ w) (2 ^ (w + w)) (ma * mb) some half whole small ∙ sym out
    go true false h some half whole ma mb small below room out ex ey =
        ap (λ n. nat_le h n && nat_lt n (2 ^ (w + w) - h)) (ap (λ k. x * k % 2 ^ (w + w)) ey ∙ one-negative (2 ^ (w + w)) x ma mb ex (omega (arith, below)))
        ∙ fits-unlike h (2 ^ w) (2 ^ (w + w)) (ma * mb) some half whole small ∙ sym out
    go false true h some half whole ma mb small below room out ex ey =
        let turn : x * y ≡ y * ma = ap (λ k. k * y) ex ∙ omega arith in
        let back : mb * ma ≡ ma * mb = omega arith in
        ap (λ n. nat_le h n && nat_lt n (2 ^ (w + w) - h)) (ap (λ k. k % 2 ^ (w + w)) turn ∙ one-negative (2 ^ (w + w)) y mb ma ey (omega (arith, below)) ∙ ap (λ k. (2 ^ (w + w) - k) % 2 ^ (w + w)) back)
        ∙ fits-unlike h (2 ^ w) (2 ^ (w + w)) (ma * mb) some half whole small ∙ sym out

-- a product is as long as its first number
rows-long : {v : ℕ → Bool} {n : ℕ} (a acc b : List Lit) → v 1 ≡ true → length acc ≤ length a → Computes v n (rows a acc b) (λ r. length r ≡ length acc)
unfolding rows
rows-long {v} {n} a acc [] one h = done-computes acc refl
rows-long {v} {n} a [] (b ∷ bs) one h = done-computes [] refl
rows-long {v} {n} a (low ∷ high) (b ∷ bs) one h =
    let cut : length (take (length high) a) ≡ length high = omega (arith, length-take (length high) a, h) in
    then-computes (row-computes (length high) (take (length high) a) b cut) (λ i row hrow.
    then-computes (sum-computes high row one (sym hrow.0)) (λ j s hs.
    then-computes (rows-long a s bs one (omega (arith, hs.0, h))) (λ k r hr.
    done-computes (low ∷ r) (ap suc (hr ∙ hs.0)))))

pub mul-long : {v : ℕ → Bool} {n : ℕ} (a b : List Lit) → v 1 ≡ true → length a ≡ length b → Computes v n (mul a b) (λ r. length r ≡ length a)
mul-long {v} {n} a [] one h = done-computes [] (sym h)
mul-long {v} {n} a (b ∷ bs) one h =
    then-computes (row-computes (length a) a b refl) (λ i acc hacc.
    weaker (rows-long a acc bs one (omega (arith, hacc.0))) (λ r hr. hr ∙ hacc.0))

fill-number : (v : ℕ → Bool) (w : ℕ) (l : Lit) → number_of v (replicate w l) ≡ cond (lit_value v l) (2 ^ w - 1) 0
fill-number v w l = go (lit_value v l) refl
  where
    go : (t : Bool) → lit_value v l ≡ t → number_of v (replicate w l) ≡ cond t (2 ^ w - 1) 0
    go true e = let all = number-ones v w l e in omega (arith, all)
    go false e = number-zeros v w l e

pub signed_product-computes : {v : ℕ → Bool} {n : ℕ} (w : ℕ) (a b : List Lit) → v 1 ≡ true → 1 ≤ w → length a ≡ w → length b ≡ w → Computes v n (signed_product_overflow a b) (λ r. lit_value v r ≡ is_outside w (signed w (number_of v a) *ℤ signed w (number_of v b)))
signed_product-computes {v} {n} w a b one lo ha hb =
    let na = number_of v a in
    let nb = number_of v b in
    let first = wide-number v (top a) w a ha in
    let second = wide-number v (top b) w b hb in
    let x = na + 2 ^ w * number_of v (replicate w (top a)) in
    let y = nb + 2 ^ w * number_of v (replicate w (top b)) in
    let whole : 2 ^ (w + w) ≡ 2 ^ w * 2 ^ w = pow-add 2 w w in
    let even : length (a ++ replicate (length a) (top a)) ≡ length (b ++ replicate (length b) (top b)) = first.0 ∙ sym second.0 in
    then-computes (together (mul-long (a ++ replicate (length a) (top a)) (b ++ replicate (length b) (top b)) one even) (mul-computes (a ++ replicate (length a) (top a)) (b ++ replicate (length b) (top b)) one)) (λ i p hp.
    let long : length p ≡ w + w = hp.0 ∙ first.0 in
    let product : number_of v p ≡ x * y % 2 ^ (w + w) =
    hp.1 ∙ ap (λ k. number_of v (a ++ replicate (length a) (top a)) * number_of v (b ++ replicate (length b) (top b)) % 2 ^ k) first.0
    ∙ ap (λ k. k * number_of v (b ++ replicate (length b) (top b)) % 2 ^ (w + w)) first.1 ∙ ap (λ k. x * k % 2 ^ (w + w)) second.1 in
    let np = number_of v p in
    let cut : length (take (length a) p) ≡ w = omega (arith, length-take (length a) p, long, ha) in
    let rest : length (drop (length a) p) ≡ length a = omega (arith, length-drop (length a) p, long, ha) in
    let l = top (take (length a) p) in
    let sign : lit_value v l ≡ nat_le (2 ^ (w - 1)) (np % 2 ^ w) = top-of v one w (take (length a) p) cut ∙ ap (is_negative w) (number-take v (length a) p ∙ ap (λ k. np % 2 ^ k) ha) in
    let fill : number_of v (replicate (length a) l) ≡ cond (nat_le (2 ^ (w - 1)) (np % 2 ^ w)) (2 ^ w - 1) 0 =
    ap (λ k. number_of v (replicate k l)) ha ∙ fill-number v w l ∙ ap (λ t. cond t (2 ^ w - 1) 0) sign in
    let high : number_of v (drop (length a) p) ≡ np / 2 ^ w = number-drop v (length a) p ∙ ap (λ k. np / 2 ^ k) ha in
    let low : np < 2 ^ (w + w) = subst (λ (k : ℕ). np < 2 ^ k) long (number-below v p) in
    then-computes (each-computes xor bit_xor (xor-bits v) (drop (length a) p) (replicate (length a) l) (rest ∙ sym (length-replicate (length a) l))) (λ j d hd.
    weaker (disjunction-computes d one) (λ r hr.
    hr ∙ some-not (number_of v d) ∙ ap (λ k. not (k == 0)) hd.1 ∙ ap not (xor-none (number_of v (drop (length a) p)) (number_of v (replicate (length a) l)))
    ∙ ap (λ k. not (k == number_of v (replicate (length a) l))) high ∙ ap (λ k. not (np / 2 ^ w == k)) fill
    ∙ in-middle (2 ^ (w - 1)) (2 ^ w) (2 ^ (w + w)) np (pow_pos (w - 1)) (halves w lo) whole low
    ∙ ap (λ k. nat_le (2 ^ (w - 1)) k && nat_lt k (2 ^ (w + w) - 2 ^ (w - 1))) product
    ∙ product-decides w na nb x y (is_negative w na) (is_negative w nb) lo (number-fits v w a ha) (number-fits v w b hb) refl refl (extended-is v one w a lo ha (is_negative w na) refl) (extended-is v one w b lo hb (is_negative w nb) refl))))
