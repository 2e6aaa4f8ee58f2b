-- Each operator's value is below the number of values of w bits.
use Rattle.std.proofs.Common.{◌≡◌, ℕ, zero, suc, ◌+◌, ◌-◌, ◌*◌, ◌/◌, ◌%◌, ◌^◌, ◌≤◌, ◌<◌, ◌==◌, Bool, true, false, cond, nat_le, ℤ, pos, negsuc, ap, subst, arith, lit<, lt_of_le_of_lt}
use Rattle.std.proofs.lemmas.Bool.{cond_both}
use Rattle.std.proofs.lemmas.Nat.{pow_pos, mod_below}
use Rattle.std.proofs.Math.Nat.{mod-le, div-le_self}
use Rattle.qv_words.specs.Signed.{signed, is_negative, magnitude, negated, residue, floor_div}
use Rattle.qv_words.specs.Op.{truth, quotient, remainder, magnitude_quotient, magnitude_remainder, signed_quotient, signed_remainder, signed_modulus, modulus_from, shifted_left, shifted_right, shifted_signed, copies, turned}
use Rattle.qv_words.proofs.Powers.{above_others_fit, high_below}

pub truth-lt : (b : Bool) → truth b < 2
truth-lt true = lit< tt
truth-lt false = lit< tt

pub complement-lt : (w x : ℕ) → 2 ^ w - 1 - x < 2 ^ w
complement-lt w x = omega (arith, pow_pos w)

pub modulo-lt : (w x : ℕ) → x % 2 ^ w < 2 ^ w
modulo-lt w x = mod_below x (2 ^ w) (pow_pos w)

pub quotient-lt : (w a b : ℕ) → a < 2 ^ w → quotient w a b < 2 ^ w
quotient-lt w a b f =
    cond_both (b == 0) (2 ^ w - 1) (a / b) (λ x. x < 2 ^ w) (λ _. omega (arith, pow_pos w)) (λ _. lt_of_le_of_lt (div-le_self a b) f)

pub remainder-lt : (w a b : ℕ) → a < 2 ^ w → remainder a b < 2 ^ w
remainder-lt w a b f = cond_both (b == 0) a (a % b) (λ x. x < 2 ^ w) (λ _. f) (λ _. lt_of_le_of_lt (mod-le a b) f)

pub negated-lt : (w a : ℕ) → negated w a < 2 ^ w
negated-lt w a = modulo-lt w (2 ^ w - a)

pub magnitude-lt : (w a : ℕ) → a < 2 ^ w → magnitude w a < 2 ^ w
magnitude-lt w a f = cond_both (is_negative w a) (negated w a) a (λ x. x < 2 ^ w) (λ _. negated-lt w a) (λ _. f)

pub signed_quotient-lt : (w a b : ℕ) → a < 2 ^ w → signed_quotient w a b < 2 ^ w
signed_quotient-lt w a b f = go (is_negative w a) (is_negative w b)
  where
    q : ℕ
    q = magnitude_quotient w a b

    go : (m n : Bool) → cond m (cond n q (negated w q)) (cond n (negated w q) q) < 2 ^ w
    go true true = quotient-lt w (magnitude w a) (magnitude w b) (magnitude-lt w a f)
    go true false = negated-lt w q
    go false true = negated-lt w q
    go false false = quotient-lt w (magnitude w a) (magnitude w b) (magnitude-lt w a f)

pub magnitude_remainder-lt : (w a b : ℕ) → a < 2 ^ w → magnitude_remainder w a b < 2 ^ w
magnitude_remainder-lt w a b f = remainder-lt w (magnitude w a) (magnitude w b) (magnitude-lt w a f)

pub signed_remainder-lt : (w a b : ℕ) → a < 2 ^ w → signed_remainder w a b < 2 ^ w
signed_remainder-lt w a b f =
    cond_both (is_negative w a) (negated w (magnitude_remainder w a b)) (magnitude_remainder w a b) (λ x. x < 2 ^ w)
    (λ _. negated-lt w (magnitude_remainder w a b)) (λ _. magnitude_remainder-lt w a b f)

modulus_from-lt : (w a b u : ℕ) → u < 2 ^ w → modulus_from w a b u < 2 ^ w
modulus_from-lt w a b u f = go (u == 0) (is_negative w a) (is_negative w b)
  where
    go : (z m n : Bool) → cond z 0 (cond m (cond n (negated w u) ((b + 2 ^ w - u) % 2 ^ w)) (cond n ((u + b) % 2 ^ w) u)) < 2 ^ w
    go true m n = pow_pos w
    go false true true = negated-lt w u
    go false true false = modulo-lt w (b + 2 ^ w - u)
    go false false true = modulo-lt w (u + b)
    go false false false = f

pub signed_modulus-lt : (w a b : ℕ) → a < 2 ^ w → signed_modulus w a b < 2 ^ w
signed_modulus-lt w a b f = modulus_from-lt w a b (magnitude_remainder w a b) (magnitude_remainder-lt w a b f)

pub residue-lt : (z : ℤ) (m : ℕ) → 0 < m → residue z m < m
residue-lt (pos n) m h = mod_below n m h
residue-lt (negsuc n) m h = omega arith

pub shifted_left-lt : (w a b : ℕ) → shifted_left w a b < 2 ^ w
shifted_left-lt w a b =
    cond_both (nat_le w b) 0 (a * 2 ^ b % 2 ^ w) (λ x. x < 2 ^ w) (λ _. pow_pos w) (λ _. modulo-lt w (a * 2 ^ b))

pub shifted_right-lt : (w a b : ℕ) → a < 2 ^ w → shifted_right w a b < 2 ^ w
shifted_right-lt w a b f =
    cond_both (nat_le w b) 0 (a / 2 ^ b) (λ x. x < 2 ^ w) (λ _. pow_pos w) (λ _. lt_of_le_of_lt (div-le_self a (2 ^ b)) f)

pub shifted_signed-lt : (w a b : ℕ) → shifted_signed w a b < 2 ^ w
shifted_signed-lt w a b = go (nat_le w b) (is_negative w a)
  where
    r : ℕ
    r = residue (floor_div (signed w a) (2 ^ b)) (2 ^ w)

    go : (m n : Bool) → cond m (cond n (2 ^ w - 1) 0) r < 2 ^ w
    go true true = omega (arith, pow_pos w)
    go true false = pow_pos w
    go false n = residue-lt (floor_div (signed w a) (2 ^ b)) (2 ^ w) (pow_pos w)

pub copies-lt : (k w a : ℕ) → a < 2 ^ w → copies k w a < 2 ^ (k * w)
copies-lt zero w a f = pow_pos (0 * w)
copies-lt (suc k) w a f =
    let same : k * w + w ≡ suc k * w = omega arith in
    subst (λ (n : ℕ). copies k w a * 2 ^ w + a < 2 ^ n) same (above_others_fit (copies k w a) a (k * w) w (copies-lt k w a f) f)

pub turned-lt : (w a k : ℕ) → k ≤ w → a < 2 ^ w → turned w a k < 2 ^ w
turned-lt w a k h f =
    let whole : 2 ^ (k + (w - k)) ≡ 2 ^ w = ap (λ n. 2 ^ n) (omega arith) in
    let inside : a % 2 ^ k * 2 ^ (w - k) + a / 2 ^ k < 2 ^ (k + (w - k)) =
    above_others_fit (a % 2 ^ k) (a / 2 ^ k) k (w - k) (modulo-lt k a) (high_below w a k h f) in
    omega (arith, whole, inside)
