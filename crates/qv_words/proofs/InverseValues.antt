-- The numbers that solve sums, differences and parts.
use Rattle.std.proofs.Common.{◌≡◌, ℕ, zero, suc, ◌+◌, ◌-◌, ◌*◌, ◌/◌, ◌%◌, ◌^◌, ◌≤◌, ◌<◌, Bool, true, false, inl, inr, refl, sym, ap, ◌∙◌, subst, arith, max, bit_and, bit_or, bit_xor}
use Rattle.std.specs.Int.{bit_at}
use Rattle.std.specs.Int.Bits.{xor_assoc, xor_self, xor_zero_r, and_self}
use Rattle.std.proofs.lemmas.Bool.{cases_lt}
use Rattle.std.proofs.lemmas.Nat.{mod_below, shl-shr, shr_split, shr_high, mod_low, xor_lt, and_assoc}
use Rattle.std.proofs.lemmas.Nat.Bits.{bit_at_xor, bit_at_or, same_from_bits, bit_at-lt, same_from_bits_below}
use Rattle.std.proofs.Math.Nat.{mod-eq_of_lt, mod-add-mod, add-mod_right, mod_self}
use Rattle.qv_words.specs.Signed.{signed, is_negative, residue}
use Rattle.qv_words.specs.Op.{turned, copies}
use Rattle.qv_words.proofs.TwosComplement.{mod_once, extended-negative, extended-other}
use Rattle.qv_words.proofs.Bounds.{complement-lt}
use Rattle.qv_words.proofs.Powers.{high_below}
use Rattle.qv_words.proofs.MovedBits.{bit_turned, extended_ones, turned_parts}

-- sums and differences modulo m
pub sum_first : (m x s t : ℕ) → s < m → (x + s) % m ≡ t → ((t + m - s) % m + s) % m ≡ t
sum_first m x s t fs is =
    let below : t < m = omega (arith, is, mod_below (x + s) m (omega arith)) in
    let whole : t + m - s + s ≡ t + m = omega arith in
    mod-add-mod (t + m - s) m s ∙ ap (λ n. n % m) whole ∙ add-mod_right t m ∙ mod-eq_of_lt below

pub sum_second : (m x s t : ℕ) → s < m → (s + x) % m ≡ t → (s + (t + m - s) % m) % m ≡ t
sum_second m x s t fs is =
    let turn : s + (t + m - s) % m ≡ (t + m - s) % m + s = omega arith in
    let known : (x + s) % m ≡ t = ap (λ n. n % m) (add_comm x s) ∙ is in
    ap (λ n. n % m) turn ∙ sum_first m x s t fs known
  where
    add_comm : (a b : ℕ) → a + b ≡ b + a
    add_comm a b = omega arith

pub difference_first : (m x s t : ℕ) → s < m → (x + m - s) % m ≡ t → ((t + s) % m + m - s) % m ≡ t
difference_first m x s t fs is =
    let below : t < m = omega (arith, is, mod_below (x + m - s) m (omega arith)) in
    let apart : (t + s) % m + m - s ≡ (t + s) % m + (m - s) = omega arith in
    let whole : t + s + (m - s) ≡ t + m = omega arith in
    ap (λ n. n % m) apart ∙ mod-add-mod (t + s) m (m - s) ∙ ap (λ n. n % m) whole ∙ add-mod_right t m ∙ mod-eq_of_lt below

pub difference_second : (m s t : ℕ) → s < m → t < m → (s + m - (s + m - t) % m) % m ≡ t
difference_second m s t fs ft = elim (cases_lt s t) [
  | inl less ↦
      let once : (s + m - t) % m ≡ s + m - t = mod-eq_of_lt (omega arith) in
      let back : s + m - (s + m - t) ≡ t = omega arith in
      ap (λ n. (s + m - n) % m) once ∙ ap (λ n. n % m) back ∙ mod-eq_of_lt ft
  | inr more ↦
      let once : (s + m - t) % m ≡ s + m - t - m = mod_once (s + m - t) m (omega arith) (omega arith) in
      let back : s + m - (s + m - t - m) ≡ t + m = omega arith in
      ap (λ n. (s + m - n) % m) once ∙ ap (λ n. n % m) back ∙ add-mod_right t m ∙ mod-eq_of_lt ft
]

pub opposite : (m t : ℕ) → t < m → (m - (m - t) % m) % m ≡ t
opposite m zero f =
    let all : m - 0 ≡ m = omega arith in
    let none : (m - 0) % m ≡ 0 = ap (λ n. n % m) all ∙ mod_self m in
    ap (λ n. (m - n) % m) none ∙ none
opposite m (suc t) f =
    let once : (m - suc t) % m ≡ m - suc t = mod-eq_of_lt (omega arith) in
    let back : m - (m - suc t) ≡ suc t = omega arith in
    ap (λ n. (m - n) % m) once ∙ ap (λ n. n % m) back ∙ mod-eq_of_lt f

pub complement_twice : (m t : ℕ) → t < m → m - 1 - (m - 1 - t) ≡ t
complement_twice m t f = omega arith

-- bit by bit
pub xor_twice : (t s : ℕ) → bit_xor (bit_xor t s) s ≡ t
xor_twice t s = xor_assoc t s s ∙ ap (bit_xor t) (xor_self s) ∙ xor_zero_r t

-- to turn the bits before a difference is to turn them behind it
pub xor_complement : (w n s : ℕ) → n < 2 ^ w → s < 2 ^ w → bit_xor (2 ^ w - 1 - n) s ≡ 2 ^ w - 1 - bit_xor n s
xor_complement w n s fn fs =
    same_from_bits_below w (bit_xor (2 ^ w - 1 - n) s) (2 ^ w - 1 - bit_xor n s) (xor_lt w (2 ^ w - 1 - n) s (complement-lt w n) fs) (complement-lt w (bit_xor n s))
    (λ i h.
    bit_at_xor (2 ^ w - 1 - n) s i ∙ ap (λ d. (d + bit_at s i) % 2) (bit_turned w n i fn h)
    ∙ odd (bit_at n i) (bit_at s i) (bit_at-lt n i) (bit_at-lt s i) ∙ ap (λ d. 1 - d) (sym (bit_at_xor n s i)) ∙ sym (bit_turned w (bit_xor n s) i (xor_lt w n s fn fs) h))
  where
    odd : (a b : ℕ) → a < 2 → b < 2 → (1 - a + b) % 2 ≡ 1 - (a + b) % 2
    odd a b f g = omega arith

pub xnor_twice : (w t s : ℕ) → t < 2 ^ w → s < 2 ^ w → 2 ^ w - 1 - bit_xor (2 ^ w - 1 - bit_xor t s) s ≡ t
xnor_twice w t s ft fs =
    ap (λ n. 2 ^ w - 1 - n) (xor_complement w (bit_xor t s) s (xor_lt w t s ft fs) fs) ∙ ap (λ n. 2 ^ w - 1 - (2 ^ w - 1 - n)) (xor_twice t s) ∙ complement_twice (2 ^ w) t ft

pub and_again : (x s : ℕ) → bit_and (bit_and x s) s ≡ bit_and x s
and_again x s = and_assoc s x s ∙ ap (bit_and x) (and_self s)

pub or_again : (x s : ℕ) → bit_or (bit_or x s) s ≡ bit_or x s
or_again x s = same_from_bits (bit_or (bit_or x s) s) (bit_or x s) (λ i. bit_at_or (bit_or x s) s i ∙ ap (λ d. max d (bit_at s i)) (bit_at_or x s i) ∙ twice (bit_at x i) (bit_at s i) ∙ sym (bit_at_or x s i))
  where
    twice : (a b : ℕ) → max (max a b) b ≡ max a b
    twice a b = omega arith

-- parts
pub part_of_shifted : (t j n : ℕ) → t < 2 ^ n → t * 2 ^ j / 2 ^ j % 2 ^ n ≡ t
part_of_shifted t j n f = ap (λ x. x % 2 ^ n) (shl-shr t j) ∙ mod-eq_of_lt f

pub low_of_copies : (k w x : ℕ) → x < 2 ^ w → copies k w (copies k w x % 2 ^ w) ≡ copies k w x
low_of_copies zero w x f = refl
low_of_copies (suc k) w x f = ap (copies (suc k) w) (mod_low (copies k w x) w x f)

pub low_of_signed : (w k x : ℕ) → x < 2 ^ w → residue (signed w x) (2 ^ (w + k)) % 2 ^ w ≡ x
low_of_signed w k x f = go (is_negative w x) refl
  where
    go : (b : Bool) → is_negative w x ≡ b → residue (signed w x) (2 ^ (w + k)) % 2 ^ w ≡ x
    go true e =
        let value : residue (signed w x) (2 ^ (w + k)) ≡ (2 ^ k - 1) * 2 ^ w + x = sym (extended-negative w k x f e) ∙ extended_ones w k x f in
        ap (λ n. n % 2 ^ w) value ∙ mod_low (2 ^ k - 1) w x f
    go false e = ap (λ n. n % 2 ^ w) (sym (extended-other w k x f e)) ∙ mod-eq_of_lt f

-- a turn by the other part turns back
pub turned_back : (w r x : ℕ) → r ≤ w → x < 2 ^ w → turned w (turned w x (w - r)) r ≡ x
turned_back w r x h f =
    let high : x / 2 ^ (w - r) < 2 ^ r = subst (λ (n : ℕ). x / 2 ^ (w - r) < 2 ^ n) (omega arith) (high_below w x (w - r) (omega arith) f) in
    let width : w - (w - r) ≡ r = omega arith in
    let inner : turned w x (w - r) ≡ x % 2 ^ (w - r) * 2 ^ r + x / 2 ^ (w - r) = turned_parts w x (w - r) ∙ ap (λ n. x % 2 ^ (w - r) * 2 ^ n + x / 2 ^ (w - r)) width in
    let above : (x % 2 ^ (w - r) * 2 ^ r + x / 2 ^ (w - r)) / 2 ^ r ≡ x % 2 ^ (w - r) = shr_high (x % 2 ^ (w - r)) r (x / 2 ^ (w - r)) high in
    let below : (x % 2 ^ (w - r) * 2 ^ r + x / 2 ^ (w - r)) % 2 ^ r ≡ x / 2 ^ (w - r) = mod_low (x % 2 ^ (w - r)) r (x / 2 ^ (w - r)) high in
    ap (λ n. turned w n r) inner ∙ rw (above, below) (omega (arith, shr_split x (w - r)))
