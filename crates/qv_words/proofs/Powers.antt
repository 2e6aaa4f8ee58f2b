-- Powers of two.
use Rattle.std.proofs.Common.{◌≡◌, ◌⊎◌, ℕ, zero, suc, ◌+◌, ◌-◌, ◌*◌, ◌/◌, ◌%◌, ◌^◌, ◌≤◌, ◌<◌, true, nat_le, inl, inr, le_trans, lit<, bit_or, subst, ap, ◌∙◌, sym, arith, bit_and}
use Rattle.std.proofs.lemmas.Bool.{le-leb, lt-leb, cases_lt, cond-false}
use Rattle.std.proofs.Math.Nat.{pow-le-pow_right, mod-eq_of_lt, div-eq_of_lt}
use Rattle.qv_words.specs.Op.{shifted_left, turned}
use Rattle.std.proofs.lemmas.Nat.{pow_pos, pow-add, div-mul-add, mod-pow-add, mod_low, and_mask, mod_below, shl_whole, or_shifted, mul-add-lt, shr_below}

-- one less than a product is one row less
less_one : (a b : ℕ) → 0 < a → 0 < b → (a * b - 1) / b + 1 ≡ a
less_one zero b p q = omega (arith, p)
less_one (suc a) b p q =
    let low : b - 1 < b = omega arith in
    let whole : suc a * b - 1 ≡ a * b + (b - 1) = omega arith in
    let quotient : (suc a * b - 1) / b ≡ a = ap (λ m. m / b) whole ∙ div-mul-add a b (b - 1) low in
    omega (arith, quotient)

-- the highest k of n ones are k ones
pub ones-shr : (k n : ℕ) → k ≤ n → (2 ^ n - 1) / 2 ^ (n - k) + 1 ≡ 2 ^ k
ones-shr k n h =
    let split : 2 ^ n ≡ 2 ^ k * 2 ^ (n - k) = ap (λ m. 2 ^ m) (omega arith) ∙ pow-add 2 k (n - k) in
    ap (λ m. (m - 1) / 2 ^ (n - k) + 1) split ∙ less_one (2 ^ k) (2 ^ (n - k)) (pow_pos k) (pow_pos (n - k))

-- the low k bits of the low n bits
pub mod-mod_pow : (x k n : ℕ) → k ≤ n → x % 2 ^ n % 2 ^ k ≡ x % 2 ^ k
mod-mod_pow x k n h =
    let whole : x % 2 ^ n ≡ (x / 2 ^ k % 2 ^ (n - k)) * 2 ^ k + x % 2 ^ k =
    ap (λ m. x % 2 ^ m) (omega arith) ∙ mod-pow-add x (n - k) k in
    ap (λ m. m % 2 ^ k) whole ∙ mod_low (x / 2 ^ k % 2 ^ (n - k)) k (x % 2 ^ k) (mod_below x (2 ^ k) (pow_pos k))

-- a mask of k ones leaves the low k bits
pub masked : (x k g : ℕ) → g + 1 ≡ 2 ^ k → bit_and x g ≡ x % 2 ^ k
masked x k g e =
    let ones : g ≡ 2 ^ k - 1 = omega arith in
    ap (bit_and x) ones ∙ and_mask x k

-- a number that is past 128 bits is past any fewer
pub over_all : (w n : ℕ) → w ≤ 128 → (n < 2 ^ 128 → ⊥) → true ≡ nat_le (2 ^ w) n
over_all w n h past =
    let whole : 2 ^ w ≤ 2 ^ 128 = pow-le-pow_right (lit< tt) h in
    sym (le-leb (2 ^ w) n (elim (cases_lt n (2 ^ 128)) [ inl below ↦ absurd (past below) | inr at_least ↦ le_trans whole at_least ]))

-- more bits have more values
pub pow_le : (v w : ℕ) → v ≤ w → 2 ^ v ≤ 2 ^ w
pow_le v w h = pow-le-pow_right (lit< tt) h

-- j bits above k others
pub above_others : (a b j k : ℕ) → a < 2 ^ j → b < 2 ^ k → j + k ≤ 128 → bit_or (a * 2 ^ k % 2 ^ 128) b ≡ a * 2 ^ k + b
above_others a b j k p q h = ap (λ x. bit_or x b) (shl_whole a j k 128 p h) ∙ or_shifted a k b q

pub above_others_fit : (a b j k : ℕ) → a < 2 ^ j → b < 2 ^ k → a * 2 ^ k + b < 2 ^ (j + k)
above_others_fit a b j k p q =
    let whole : 2 ^ (j + k) ≡ 2 ^ j * 2 ^ k = pow-add 2 j k in
    let inside : a * 2 ^ k + b < 2 ^ k * 2 ^ j = mul-add-lt a (2 ^ k) b (2 ^ j) p q in
    omega (arith, whole, inside)

-- a shift by less than the width
pub shifted_within : (w a b : ℕ) → w ≤ 128 → b < w → a * 2 ^ b % 2 ^ 128 % 2 ^ w ≡ shifted_left w a b
shifted_within w a b h below = mod-mod_pow (a * 2 ^ b) w 128 h ∙ sym (cond-false (nat_le w b) 0 (a * 2 ^ b % 2 ^ w) (lt-leb w b below))

-- the high bits of w bits
pub high_below : (w a k : ℕ) → k ≤ w → a < 2 ^ w → a / 2 ^ k < 2 ^ (w - k)
high_below w a k h f = shr_below a (w - k) k (subst (λ (n : ℕ). a < 2 ^ n) (omega arith) f)

-- a turn by nothing, and by all bits
pub turned-zero : (w a : ℕ) → turned w a 0 ≡ a
turned-zero w a =
    let whole : a / 1 ≡ a = omega arith in
    let none : a % 1 ≡ 0 = omega arith in
    rw (whole, none) (omega arith)

pub turned_whole : (w a : ℕ) → a < 2 ^ w → turned w a w ≡ a
turned_whole w a f =
    let none : a / 2 ^ w ≡ 0 = div-eq_of_lt f in
    let whole : a % 2 ^ w ≡ a = mod-eq_of_lt f in
    let same : w - w ≡ 0 = omega arith in
    let one : 2 ^ (w - w) ≡ 1 = ap (λ n. 2 ^ n) same in
    rw (none, whole, one) (omega arith)

pub turned_either : (w a k : ℕ) → a < 2 ^ w → (k ≡ 0) ⊎ ((k ≡ 0 → ⊥) × (k ≡ w)) → a ≡ turned w a k
turned_either w a k f (inl e) = sym (ap (turned w a) e ∙ turned-zero w a)
turned_either w a k f (inr e) = sym (ap (turned w a) e.1 ∙ turned_whole w a f)
