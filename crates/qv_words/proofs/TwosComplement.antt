-- Signed numbers of w bits.
use Rattle.std.proofs.Common.{◌≡◌, ℕ, zero, suc, ◌+◌, ◌-◌, ◌*◌, ◌%◌, ◌^◌, ◌≤◌, ◌<◌, inl, inr, Bool, true, false, not, cond, leb, ltb, ℤ, pos, negsuc, neg_ℤ, ◌+ℤ◌, ◌-ℤ◌, ◌*ℤ◌, refl, sym, ap, ◌∙◌, arith, le_trans, lt_of_lt_of_le, le_of_lt}
use Rattle.std.proofs.lemmas.Bool.{cases_lt, cond-true, cond-false, cond_both, le-leb, lt-leb, leb-true, leb-false, lt-ltb, le-ltb}
use Rattle.std.proofs.lemmas.Nat.{pow_pos, pow-add, pow_below}
use Rattle.std.proofs.Math.Nat.{mod-eq_of_lt, mod-eq-sub-mod}
use mathlib.Core.Bool.{beq}
use Rattle.qv_words.specs.Signed.{signed, is_negative, magnitude, negated, is_outside, residue}
use Rattle.qv_words.proofs.Powers.{pow_le}

-- half of the values have the sign bit
pub halves : (w : ℕ) → 1 ≤ w → 2 ^ w ≡ 2 ^ (w - 1) + 2 ^ (w - 1)
halves w h = ap (λ n. 2 ^ n) (omega arith) ∙ pow-add 2 (w - 1) 1 ∙ omega arith

-- two tests with one answer, and two with opposite answers
pub leb_same : (a b c d : ℕ) → (a ≤ b → c ≤ d) → (c ≤ d → a ≤ b) → leb a b ≡ leb c d
leb_same a b c d f g = elim (cases_lt b a) [
  | inl less ↦ lt-leb a b less ∙ sym (lt-leb c d (elim (cases_lt d c) [ inl k ↦ k | inr k ↦ absurd (let le : a ≤ b = g k in omega arith) ]))
  | inr le ↦ le-leb a b le ∙ sym (le-leb c d (f le))
]

pub leb_opposite : (a b c d : ℕ) → (a ≤ b → d < c) → (d < c → a ≤ b) → not (leb a b) ≡ leb c d
leb_opposite a b c d f g = elim (cases_lt b a) [
  | inl less ↦ ap not (lt-leb a b less) ∙ sym (le-leb c d (elim (cases_lt d c) [ inl k ↦ absurd (let le : a ≤ b = g k in omega arith) | inr k ↦ k ]))
  | inr le ↦ ap not (le-leb a b le) ∙ sym (lt-leb c d (f le))
]

-- the signed number, by the sign bit
pub signed-negative : (w a : ℕ) → is_negative w a ≡ true → signed w a ≡ negsuc (2 ^ w - 1 - a)
signed-negative w a e = ap (λ b. cond b (negsuc (2 ^ w - 1 - a)) (pos a)) e

pub signed-other : (w a : ℕ) → is_negative w a ≡ false → signed w a ≡ pos a
signed-other w a e = ap (λ b. cond b (negsuc (2 ^ w - 1 - a)) (pos a)) e

-- a number less than twice another, modulo it
pub mod_once : (x m : ℕ) → m ≤ x → x < m + m → x % m ≡ x - m
mod_once x m p q = mod-eq-sub-mod p ∙ mod-eq_of_lt (omega arith)

beq-true : (r : Bool) → beq true r ≡ r
beq-true true = refl
beq-true false = refl

not-not : (r : Bool) → not (not r) ≡ r
not-not true = refl
not-not false = refl

-- whether a sum lies outside, by the signs
outside_negatives : (w m n : ℕ) (x y : ℤ) → x ≡ negsuc m → y ≡ negsuc n → is_outside w (x +ℤ y) ≡ leb (2 ^ (w - 1)) (suc (m + n))
outside_negatives w m n x y p q = ap (λ z. is_outside w (z +ℤ y)) p ∙ ap (λ z. is_outside w (negsuc m +ℤ z)) q

outside_others : (w m n : ℕ) (x y : ℤ) → x ≡ pos m → y ≡ pos n → is_outside w (x +ℤ y) ≡ leb (2 ^ (w - 1)) (m + n)
outside_others w m n x y p q = ap (λ z. is_outside w (z +ℤ y)) p ∙ ap (λ z. is_outside w (pos m +ℤ z)) q

-- a sum of numbers of one sign lies outside where its bits have the other sign
pub sum_outside : (w a b s : ℕ) (p q r : Bool) → 1 ≤ w → a < 2 ^ w → b < 2 ^ w → p ≡ is_negative w a → q ≡ is_negative w b → s ≡ (a + b) % 2 ^ w → r ≡ is_negative w s → beq p q ≡ true → not (beq p r) ≡ is_outside w (signed w a +ℤ signed w b)
sum_outside w a b s true false r lo fa fb pa qb sum rs e = absurd (cc)
sum_outside w a b s false true r lo fa fb pa qb sum rs e = absurd (cc)
sum_outside w a b s true true r lo fa fb pa qb sum rs e =
    let twice = halves w lo in
    let ha : 2 ^ (w - 1) ≤ a = leb-true (2 ^ (w - 1)) a (sym pa) in
    let hb : 2 ^ (w - 1) ≤ b = leb-true (2 ^ (w - 1)) b (sym qb) in
    let once : s ≡ a + b - 2 ^ w = sum ∙ mod_once (a + b) (2 ^ w) (omega (arith, twice)) (omega arith) in
    ap not (beq-true r ∙ rs ∙ ap (leb (2 ^ (w - 1))) once)
    ∙ leb_opposite (2 ^ (w - 1)) (a + b - 2 ^ w) (2 ^ (w - 1)) (suc ((2 ^ w - 1 - a) + (2 ^ w - 1 - b))) (λ k. omega arith) (λ k. omega arith)
    ∙ sym (outside_negatives w (2 ^ w - 1 - a) (2 ^ w - 1 - b) (signed w a) (signed w b) (signed-negative w a (sym pa)) (signed-negative w b (sym qb)))
sum_outside w a b s false false r lo fa fb pa qb sum rs e =
    let twice = halves w lo in
    let ha : a < 2 ^ (w - 1) = leb-false (2 ^ (w - 1)) a (sym pa) in
    let hb : b < 2 ^ (w - 1) = leb-false (2 ^ (w - 1)) b (sym qb) in
    let none : s ≡ a + b = sum ∙ mod-eq_of_lt (omega arith) in
    not-not r ∙ rs ∙ ap (leb (2 ^ (w - 1))) none
    ∙ sym (outside_others w a b (signed w a) (signed w b) (signed-other w a (sym pa)) (signed-other w b (sym qb)))

-- a negative number less another
negsuc-pos : (m n : ℕ) → negsuc m -ℤ pos n ≡ negsuc (m + n)
negsuc-pos m zero =
    cond-true (ltb 0 (suc m)) (negsuc (suc m - suc 0)) (pos (0 - suc m)) (lt-ltb 0 (suc m) (omega arith)) ∙ ap negsuc (omega arith)
negsuc-pos m (suc n) = ap negsuc (omega arith)

outside_left : (w m n : ℕ) (x y : ℤ) → x ≡ negsuc m → y ≡ pos n → is_outside w (x -ℤ y) ≡ leb (2 ^ (w - 1)) (m + n)
outside_left w m n x y p q = ap (λ z. is_outside w (z -ℤ y)) p ∙ ap (λ z. is_outside w (negsuc m -ℤ z)) q ∙ ap (is_outside w) (negsuc-pos m n)

outside_right : (w m n : ℕ) (x y : ℤ) → x ≡ pos m → y ≡ negsuc n → is_outside w (x -ℤ y) ≡ leb (2 ^ (w - 1)) (m + suc n)
outside_right w m n x y p q = ap (λ z. is_outside w (z -ℤ y)) p ∙ ap (λ z. is_outside w (pos m -ℤ z)) q

-- a difference of numbers of two signs lies outside where its bits have not the first one's sign
pub difference_outside : (w a b s : ℕ) (p q r : Bool) → 1 ≤ w → a < 2 ^ w → b < 2 ^ w → p ≡ is_negative w a → q ≡ is_negative w b → s ≡ (a + 2 ^ w - b) % 2 ^ w → r ≡ is_negative w s → not (beq p q) ≡ true → not (beq p r) ≡ is_outside w (signed w a -ℤ signed w b)
difference_outside w a b s true true r lo fa fb pa qb difference rs e = absurd (cc)
difference_outside w a b s false false r lo fa fb pa qb difference rs e = absurd (cc)
difference_outside w a b s true false r lo fa fb pa qb difference rs e =
    let twice = halves w lo in
    let ha : 2 ^ (w - 1) ≤ a = leb-true (2 ^ (w - 1)) a (sym pa) in
    let hb : b < 2 ^ (w - 1) = leb-false (2 ^ (w - 1)) b (sym qb) in
    let once : s ≡ a + 2 ^ w - b - 2 ^ w = difference ∙ mod_once (a + 2 ^ w - b) (2 ^ w) (omega arith) (omega arith) in
    ap not (beq-true r ∙ rs ∙ ap (leb (2 ^ (w - 1))) once)
    ∙ leb_opposite (2 ^ (w - 1)) (a + 2 ^ w - b - 2 ^ w) (2 ^ (w - 1)) ((2 ^ w - 1 - a) + b) (λ k. omega arith) (λ k. omega arith)
    ∙ sym (outside_left w (2 ^ w - 1 - a) b (signed w a) (signed w b) (signed-negative w a (sym pa)) (signed-other w b (sym qb)))
difference_outside w a b s false true r lo fa fb pa qb difference rs e =
    let twice = halves w lo in
    let ha : a < 2 ^ (w - 1) = leb-false (2 ^ (w - 1)) a (sym pa) in
    let hb : 2 ^ (w - 1) ≤ b = leb-true (2 ^ (w - 1)) b (sym qb) in
    let none : s ≡ a + 2 ^ w - b = difference ∙ mod-eq_of_lt (omega arith) in
    not-not r ∙ rs ∙ ap (leb (2 ^ (w - 1))) (none ∙ omega arith)
    ∙ sym (outside_right w a (2 ^ w - 1 - b) (signed w a) (signed w b) (signed-other w a (sym pa)) (signed-negative w b (sym qb)))

-- the magnitude, by the sign bit
magnitude-negative : (w a : ℕ) → 1 ≤ w → a < 2 ^ w → is_negative w a ≡ true → magnitude w a ≡ suc (2 ^ w - 1 - a)
magnitude-negative w a lo f e =
    let high : 2 ^ (w - 1) ≤ a = leb-true (2 ^ (w - 1)) a e in
    let some : 0 < 2 ^ (w - 1) = pow_pos (w - 1) in
    ap (λ b. cond b (negated w a) a) e ∙ mod-eq_of_lt (omega arith) ∙ omega arith

pub magnitude-other : (w a : ℕ) → is_negative w a ≡ false → magnitude w a ≡ a
magnitude-other w a e = ap (λ b. cond b (negated w a) a) e

-- whether the opposite of a product lies outside
outside-neg : (w n : ℕ) → is_outside w (neg_ℤ (pos n)) ≡ ltb (2 ^ (w - 1)) n
outside-neg w zero = le-leb' (pow_pos (w - 1))
  where
    le-leb' : 0 < 2 ^ (w - 1) → leb (2 ^ (w - 1)) 0 ≡ ltb (2 ^ (w - 1)) 0
    le-leb' h = lt-leb (2 ^ (w - 1)) 0 h ∙ sym (le-ltb (2 ^ (w - 1)) 0 (omega arith))
outside-neg w (suc n) = elim (cases_lt n (2 ^ (w - 1))) [
  | inl less ↦ lt-leb (2 ^ (w - 1)) n less ∙ sym (le-ltb (2 ^ (w - 1)) (suc n) (omega (arith, less)))
  | inr at_least ↦ le-leb (2 ^ (w - 1)) n at_least ∙ sym (lt-ltb (2 ^ (w - 1)) (suc n) (omega (arith, at_least)))
]

-- whether a product lies outside, by the magnitudes
pub product_outside : (w a b : ℕ) (p q : Bool) → 1 ≤ w → a < 2 ^ w → b < 2 ^ w → p ≡ is_negative w a → q ≡ is_negative w b → is_outside w (signed w a *ℤ signed w b) ≡ cond (beq p q) (leb (2 ^ (w - 1)) (magnitude w a * magnitude w b)) (ltb (2 ^ (w - 1)) (magnitude w a * magnitude w b))
product_outside w a b true true lo fa fb pa qb =
    rw (signed-negative w a (sym pa), signed-negative w b (sym qb), magnitude-negative w a lo fa (sym pa), magnitude-negative w b lo fb (sym qb)) refl
product_outside w a b false false lo fa fb pa qb =
    rw (signed-other w a (sym pa), signed-other w b (sym qb), magnitude-other w a (sym pa), magnitude-other w b (sym qb)) refl
product_outside w a b true false lo fa fb pa qb =
    rw (signed-negative w a (sym pa), signed-other w b (sym qb), magnitude-negative w a lo fa (sym pa), magnitude-other w b (sym qb)) (outside-neg w (suc (2 ^ w - 1 - a) * b))
product_outside w a b false true lo fa fb pa qb =
    rw (signed-other w a (sym pa), signed-negative w b (sym qb), magnitude-other w a (sym pa), magnitude-negative w b lo fb (sym qb)) (outside-neg w (a * suc (2 ^ w - 1 - b)))

-- a signed number at a greater width
pub extended-negative : (w k a : ℕ) → a < 2 ^ w → is_negative w a ≡ true → 2 ^ (w + k) - 1 - (2 ^ w - 1 - a) ≡ residue (signed w a) (2 ^ (w + k))
extended-negative w k a f e =
    let wide = pow_le w (w + k) (omega arith) in
    let small : 2 ^ w - 1 - a < 2 ^ (w + k) = omega (arith, wide) in
    ap (λ n. 2 ^ (w + k) - 1 - n) (sym (mod-eq_of_lt small)) ∙ sym (ap (λ z. residue z (2 ^ (w + k))) (signed-negative w a e))

pub extended-other : (w k a : ℕ) → a < 2 ^ w → is_negative w a ≡ false → a ≡ residue (signed w a) (2 ^ (w + k))
extended-other w k a f e =
    let wide = pow_le w (w + k) (omega arith) in
    sym (mod-eq_of_lt (omega (arith, wide))) ∙ sym (ap (λ z. residue z (2 ^ (w + k))) (signed-other w a e))

pub product_of_alike : (w a b h n m k : ℕ) (p q : Bool) → 1 ≤ w → a < 2 ^ w → b < 2 ^ w → p ≡ is_negative w a → q ≡ is_negative w b → h ≡ 2 ^ (w - 1) → n ≡ m * k → m ≡ magnitude w a → k ≡ magnitude w b → beq p q ≡ true → leb h n ≡ is_outside w (signed w a *ℤ signed w b)
product_of_alike w a b h n m k p q lo fa fb pa qb half is ma kb e =
    rw (half, is, ma, kb) (sym (cond-true (beq p q) (leb (2 ^ (w - 1)) (magnitude w a * magnitude w b)) (ltb (2 ^ (w - 1)) (magnitude w a * magnitude w b)) e))
    ∙ sym (product_outside w a b p q lo fa fb pa qb)

pub product_of_others : (w a b h n m k : ℕ) (p q : Bool) → 1 ≤ w → a < 2 ^ w → b < 2 ^ w → p ≡ is_negative w a → q ≡ is_negative w b → h ≡ 2 ^ (w - 1) → n ≡ m * k → m ≡ magnitude w a → k ≡ magnitude w b → beq p q ≡ false → ltb h n ≡ is_outside w (signed w a *ℤ signed w b)
product_of_others w a b h n m k p q lo fa fb pa qb half is ma kb e =
    rw (half, is, ma, kb) (sym (cond-false (beq p q) (leb (2 ^ (w - 1)) (magnitude w a * magnitude w b)) (ltb (2 ^ (w - 1)) (magnitude w a * magnitude w b)) e))
    ∙ sym (product_outside w a b p q lo fa fb pa qb)

-- a product of magnitudes that is past 128 bits
pub product_past : (w a b m k : ℕ) → 1 ≤ w → w ≤ 128 → a < 2 ^ w → b < 2 ^ w → m ≡ magnitude w a → k ≡ magnitude w b → (m * k < 2 ^ 128 → ⊥) → true ≡ is_outside w (signed w a *ℤ signed w b)
product_past w a b m k lo hi fa fb ma kb past =
    let h : ℕ = 2 ^ (w - 1) in
    let half : 2 ^ (w - 1) < 2 ^ w = pow_below (w - 1) w (omega arith) in
    let whole : 2 ^ w ≤ 2 ^ 128 = pow_le w 128 hi in
    let many : 2 ^ 128 ≤ magnitude w a * magnitude w b = rw (← ma, ← kb) (elim (cases_lt (m * k) (2 ^ 128)) [ inl below ↦ absurd (past below) | inr at_least ↦ at_least ]) in
    let above : 2 ^ (w - 1) < magnitude w a * magnitude w b = lt_of_lt_of_le half (le_trans whole many) in
    sym (product_outside w a b (is_negative w a) (is_negative w b) lo fa fb refl refl
    ∙ cond_both (beq (is_negative w a) (is_negative w b)) (leb (2 ^ (w - 1)) (magnitude w a * magnitude w b)) (ltb (2 ^ (w - 1)) (magnitude w a * magnitude w b)) (λ x. x ≡ true)
    (λ _. le-leb (2 ^ (w - 1)) (magnitude w a * magnitude w b) (le_of_lt above)) (λ _. lt-ltb (2 ^ (w - 1)) (magnitude w a * magnitude w b) above))
