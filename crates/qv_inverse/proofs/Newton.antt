-- A step of Newton's method in 128 bits, and zeros at the end of numbers.
use Rattle.std.proofs.Common.{◌≡◌, ℕ, zero, suc, ◌+◌, ◌-◌, ◌*◌, ◌/◌, ◌%◌, ◌^◌, ◌≤◌, ◌<◌, ◌==◌, cond, min, sym, ap, ◌∙◌, subst, arith}
use Rattle.std.proofs.lemmas.Nat.{pow_pos, pow-add, mod_below, mul-mod_second}
use Rattle.std.proofs.Math.Nat.{add-mul-mod_self_left}
use Rattle.std.proofs.Math.Dec.{eqb-suc-zero}
use Rattle.std.proofs.lemmas.Bool.{cond-false}
use lib.Count.{count_trailing_zeros}
use Rattle.qv_words.specs.Inverse.{trailing_zeros, newton, inverse_modulo}
use Rattle.qv_words.proofs.Powers.{mod-mod_pow}

-- 2 less p, modulo the greater power
two_less : (w p : ℕ) → w ≤ 128 → p < 2 ^ w → (2 + (2 ^ 128 - p)) % 2 ^ 128 % 2 ^ w ≡ (2 + 2 ^ w - p) % 2 ^ w
two_less w p h below =
    let parts : 128 ≡ w + (128 - w) = omega arith in
    let whole : 2 ^ 128 ≡ 2 ^ w * 2 ^ (128 - w) = ap (λ n. 2 ^ n) parts ∙ pow-add 2 w (128 - w) in
    go (2 ^ (128 - w)) (pow_pos (128 - w)) whole
  where
    go : (k : ℕ) → 0 < k → 2 ^ 128 ≡ 2 ^ w * k → (2 + (2 ^ 128 - p)) % 2 ^ 128 % 2 ^ w ≡ (2 + 2 ^ w - p) % 2 ^ w
    go zero some whole = absurd (omega (arith, some))
    go (suc k) some whole =
        let split : 2 + (2 ^ 128 - p) ≡ (2 + 2 ^ w - p) + 2 ^ w * k = omega (arith, whole, below) in
        mod-mod_pow (2 + (2 ^ 128 - p)) w 128 h ∙ ap (λ n. n % 2 ^ w) split ∙ add-mul-mod_self_left (2 + 2 ^ w - p) (2 ^ w) k

-- a step in 128 bits
pub step : (w a x p : ℕ) → w ≤ 128 → p ≡ a * x % 2 ^ 128 % 2 ^ w → x * ((2 + (2 ^ 128 - p)) % 2 ^ 128) % 2 ^ 128 % 2 ^ w ≡ x * (2 + 2 ^ w - a * x % 2 ^ w) % 2 ^ w
step w a x p h is =
    let low : p ≡ a * x % 2 ^ w = is ∙ mod-mod_pow (a * x) w 128 h in
    let below : p < 2 ^ w = subst (λ (n : ℕ). n < 2 ^ w) (sym low) (mod_below (a * x) (2 ^ w) (pow_pos w)) in
    mod-mod_pow (x * ((2 + (2 ^ 128 - p)) % 2 ^ 128)) w 128 h
    ∙ sym (mul-mod_second x ((2 + (2 ^ 128 - p)) % 2 ^ 128) (2 ^ w))
    ∙ ap (λ n. x * n % 2 ^ w) (two_less w p h below)
    ∙ mul-mod_second x (2 + 2 ^ w - p) (2 ^ w)
    ∙ ap (λ n. x * (2 + 2 ^ w - n) % 2 ^ w) low

-- what is known of a number after some of the steps
pub record IsOnTheWay (w a i x : ℕ) : Type 0 where
  pub leads : newton (6 - i) (2 ^ w) a x ≡ inverse_modulo w a
  pub below : x < 2 ^ w

pub on_the_way-first : (w a x : ℕ) → x ≡ a % 2 ^ w → IsOnTheWay w a 0 x
unfolding inverse_modulo
on_the_way-first w a x is = record {
  leads = ap (λ n. newton 6 (2 ^ w) a n) is;
  below = subst (λ (n : ℕ). n < 2 ^ w) (sym is) (mod_below a (2 ^ w) (pow_pos w));
}

pub on_the_way-next : (w a i x y : ℕ) → i < 6 → y ≡ x * (2 + 2 ^ w - a * x % 2 ^ w) % 2 ^ w → IsOnTheWay w a i x → IsOnTheWay w a (i + 1) y
on_the_way-next w a i x y h is way =
    let left : 6 - i ≡ suc (6 - (i + 1)) = omega arith in
    record {
      leads = ap (newton (6 - (i + 1)) (2 ^ w) a) is ∙ sym (ap (λ n. newton n (2 ^ w) a x) left) ∙ way.leads;
      below = subst (λ (n : ℕ). n < 2 ^ w) (sym is) (mod_below (x * (2 + 2 ^ w - a * x % 2 ^ w)) (2 ^ w) (pow_pos w));
    }

pub on_the_way-last : (w a i x : ℕ) → 6 ≤ i → IsOnTheWay w a i x → x ≡ inverse_modulo w a
on_the_way-last w a i x h way =
    let left : 6 - i ≡ 0 = omega arith in sym (ap (λ n. newton n (2 ^ w) a x) left) ∙ way.leads

-- the count among at most m digits, from that among more
pub zeros-min : (k m n : ℕ) → m ≤ k → min m (count_trailing_zeros k n) ≡ trailing_zeros m n
unfolding count_trailing_zeros
zeros-min k zero n h = omega arith
zeros-min zero (suc m) n h = absurd (omega (arith, h))
zeros-min (suc k) (suc m) n h = go (n % 2) (zeros-min k m (n / 2) (omega (arith, h)))
  where
    go : (d : ℕ) → min m (count_trailing_zeros k (n / 2)) ≡ trailing_zeros m (n / 2) → min (suc m) (lib.Count.under d (count_trailing_zeros k (n / 2))) ≡ cond (d == 0) (suc (trailing_zeros m (n / 2))) 0
    go zero e = omega (arith, e)
    go (suc d) e = let none : min (suc m) 0 ≡ 0 = omega arith in none ∙ sym (cond-false (suc d == 0) (suc (trailing_zeros m (n / 2))) 0 (eqb-suc-zero d))
