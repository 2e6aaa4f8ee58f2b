-- The bits of values that bitwise operators give, or that were turned, copied, extended, cut and joined.
use Rattle.std.proofs.Common.{◌≡◌, ℕ, zero, suc, ◌+◌, ◌-◌, ◌*◌, ◌/◌, ◌%◌, ◌^◌, ◌≤◌, ◌<◌, Bool, true, false, inl, inr, refl, sym, ap, ◌∙◌, subst, arith, min, max, bit_and, bit_or, bit_xor, lt_of_le_of_lt}
use Rattle.std.specs.Int.{bit_at}
use Rattle.std.proofs.lemmas.Bool.{cases_lt, leb-true, leb-false}
use Rattle.std.proofs.lemmas.Nat.{and_le_l, or_lt, xor_lt, pow-add, shr-shr, shr_split, mod_below, pow_pos}
use Rattle.std.proofs.lemmas.Nat.Bits.{bit_at_lowest, bit_at-suc, bit_at_and, bit_at_or, bit_at_xor, bit_at_cat_low, bit_at_cat_high, bit_at_above, bit_at_ones}
use Rattle.std.proofs.Math.Nat.{mod-eq_of_lt, mod-eq-sub-mod, add-mod-mod, pow-suc}
use Rattle.qv_words.specs.declared.op.Op.TheVariants.{BvAnd, BvOr, BvXor, BvNand, BvNor, BvXnor}
use Rattle.qv_words.specs.Signed.{signed, is_negative, residue}
use Rattle.qv_words.specs.Op.{turned, copies}
use Rattle.qv_words.specs.BitLaws.{WorksOnBits, RotateLeftMovesBits, RotateRightMovesBits, RepeatCopiesBits, ZeroExtendAddsZeros, SignExtendCopiesSign, ExtractTakesBits, ConcatJoinsBits}
use Rattle.qv_words.proofs.Powers.{high_below}
use Rattle.qv_words.proofs.Bounds.{modulo-lt}
use Rattle.qv_words.proofs.TwosComplement.{mod_once, halves, extended-negative, extended-other}

-- each bit turned
pub bit_turned : (k n i : ℕ) → n < 2 ^ k → i < k → bit_at (2 ^ k - 1 - n) i ≡ 1 - bit_at n i
bit_turned zero n i f h = absurd (omega arith)
bit_turned (suc k) n zero f h = omega (arith, bit_at_lowest (2 ^ suc k - 1 - n), bit_at_lowest n, pow-suc 2 k)
bit_turned (suc k) n (suc i) f h =
    let half : (2 ^ suc k - 1 - n) / 2 ≡ 2 ^ k - 1 - n / 2 = omega (arith, pow-suc 2 k) in
    bit_at-suc (2 ^ suc k - 1 - n) i ∙ ap (λ x. bit_at x i) half ∙ bit_turned k (n / 2) i (omega (arith, pow-suc 2 k)) (omega arith) ∙ ap (λ d. 1 - d) (sym (bit_at-suc n i))

pub and_bits : WorksOnBits BvAnd (λ x y. min x y)
and_bits w a b i fa fb h = bit_at_and a b i

pub or_bits : WorksOnBits BvOr (λ x y. max x y)
or_bits w a b i fa fb h = bit_at_or a b i

pub xor_bits : WorksOnBits BvXor (λ x y. (x + y) % 2)
xor_bits w a b i fa fb h = bit_at_xor a b i

pub nand_bits : WorksOnBits BvNand (λ x y. 1 - min x y)
nand_bits w a b i fa fb h = bit_turned w (bit_and a b) i (lt_of_le_of_lt (and_le_l a b) fa) h ∙ ap (λ d. 1 - d) (bit_at_and a b i)

pub nor_bits : WorksOnBits BvNor (λ x y. 1 - max x y)
nor_bits w a b i fa fb h = bit_turned w (bit_or a b) i (or_lt w a b fa fb) h ∙ ap (λ d. 1 - d) (bit_at_or a b i)

pub xnor_bits : WorksOnBits BvXnor (λ x y. 1 - (x + y) % 2)
xnor_bits w a b i fa fb h = bit_turned w (bit_xor a b) i (xor_lt w a b fa fb) h ∙ ap (λ d. 1 - d) (bit_at_xor a b i)

-- the low k bits of a number are its own
pub bit_low : (a k i : ℕ) → i < k → bit_at (a % 2 ^ k) i ≡ bit_at a i
bit_low a k i h = sym (bit_at_cat_low (a / 2 ^ k) k (a % 2 ^ k) i h) ∙ ap (λ x. bit_at x i) (shr_split a k)

-- the bits of a number less its low k
pub bit_high : (a k i : ℕ) → bit_at (a / 2 ^ k) i ≡ bit_at a (k + i)
bit_high a k i = ap (λ x. x % 2) (shr-shr a k i)

-- a number whose low k bits were moved to the high end
pub turned_parts : (w a k : ℕ) → turned w a k ≡ a % 2 ^ k * 2 ^ (w - k) + a / 2 ^ k
turned_parts w a k = omega arith

pub turned_low : (w a k i : ℕ) → i < w - k → bit_at (turned w a k) i ≡ bit_at a (k + i)
turned_low w a k i h =
    ap (λ x. bit_at x i) (turned_parts w a k) ∙ bit_at_cat_low (a % 2 ^ k) (w - k) (a / 2 ^ k) i h ∙ bit_high a k i

pub turned_high : (w a k i : ℕ) → k ≤ w → a < 2 ^ w → i < w → w - k ≤ i → bit_at (turned w a k) i ≡ bit_at a (i - (w - k))
turned_high w a k i h f within at =
    ap (λ x. bit_at x i) (turned_parts w a k)
    ∙ bit_at_cat_high (a % 2 ^ k) (w - k) (a / 2 ^ k) i (high_below w a k h f) at
    ∙ bit_low a k (i - (w - k)) (omega arith)

pub left_bits : RotateLeftMovesBits
left_bits w k a i f within = go (k % w) (mod_below k w (omega arith))
  where
    go : (r : ℕ) → r < w → bit_at (turned w a (w - r)) i ≡ bit_at a ((i + w - r) % w)
    go r below = elim (cases_lt i r) [
      | inl less ↦
          let at : w - r + i ≡ (i + w - r) % w = omega arith ∙ sym (mod-eq_of_lt (omega arith)) in
          turned_low w a (w - r) i (omega arith) ∙ ap (bit_at a) at
      | inr more ↦
          let at : i - (w - (w - r)) ≡ (i + w - r) % w = omega arith ∙ sym (mod_once (i + w - r) w (omega arith) (omega arith)) in
          turned_high w a (w - r) i (omega arith) f within (omega arith) ∙ ap (bit_at a) at
    ]

pub right_bits : RotateRightMovesBits
right_bits w k a i f within = go (k % w) (mod_below k w (omega arith)) ∙ ap (bit_at a) (add-mod-mod i k w)
  where
    go : (r : ℕ) → r < w → bit_at (turned w a r) i ≡ bit_at a ((i + r) % w)
    go r below = elim (cases_lt i (w - r)) [
      | inl less ↦
          let at : r + i ≡ (i + r) % w = omega arith ∙ sym (mod-eq_of_lt (omega arith)) in
          turned_low w a r i less ∙ ap (bit_at a) at
      | inr more ↦
          let at : i - (w - r) ≡ (i + r) % w = omega arith ∙ sym (mod_once (i + r) w (omega arith) (omega arith)) in
          turned_high w a r i (omega arith) f within more ∙ ap (bit_at a) at
    ]

copies_bits : (k w a i : ℕ) → a < 2 ^ w → i < k * w → bit_at (copies k w a) i ≡ bit_at a (i % w)
copies_bits zero w a i f h = absurd (omega arith)
copies_bits (suc k) w a i f h = elim (cases_lt i w) [
  | inl less ↦ bit_at_cat_low (copies k w a) w a i less ∙ ap (bit_at a) (sym (mod-eq_of_lt less))
  | inr more ↦
      bit_at_cat_high (copies k w a) w a i f more ∙ copies_bits k w a (i - w) f (omega arith) ∙ ap (bit_at a) (sym (mod-eq-sub-mod more))
]

pub repeat_bits : RepeatCopiesBits
repeat_bits w k a i f h = copies_bits k w a i f h

pub zero_bits : ZeroExtendAddsZeros
zero_bits w k a i f = (λ h. refl, λ h. bit_at_above a w i f h)

-- the sign bit is the highest
sign_one : (w a : ℕ) → 1 ≤ w → a < 2 ^ w → is_negative w a ≡ true → bit_at a (w - 1) ≡ 1
sign_one w a lo f e =
    let twice = halves w lo in
    let high : 2 ^ (w - 1) ≤ a = leb-true (2 ^ (w - 1)) a e in
    let whole : a ≡ 1 * 2 ^ (w - 1) + (a - 2 ^ (w - 1)) = omega arith in
    let rest : a - 2 ^ (w - 1) < 2 ^ (w - 1) = omega arith in
    let none : w - 1 - (w - 1) ≡ 0 = omega arith in
    ap (λ x. bit_at x (w - 1)) whole ∙ bit_at_cat_high 1 (w - 1) (a - 2 ^ (w - 1)) (w - 1) rest (omega arith) ∙ ap (bit_at 1) none

sign_zero : (w a : ℕ) → is_negative w a ≡ false → bit_at a (w - 1) ≡ 0
sign_zero w a e = bit_at_above a (w - 1) (w - 1) (leb-false (2 ^ (w - 1)) a e) (omega arith)

-- a negative number at a greater width has ones above
pub extended_ones : (w k a : ℕ) → a < 2 ^ w → 2 ^ (w + k) - 1 - (2 ^ w - 1 - a) ≡ (2 ^ k - 1) * 2 ^ w + a
extended_ones w k a f = go (2 ^ w) (2 ^ k) (2 ^ (w + k)) f (pow_pos k) (pow-add 2 w k)
  where
    go : (m n p : ℕ) → a < m → 0 < n → p ≡ m * n → p - 1 - (m - 1 - a) ≡ (n - 1) * m + a
    go m zero p g h e = absurd (omega arith)
    go m (suc n) p g h e = let one : suc n - 1 ≡ n = omega arith in rw one (omega (arith, e))

abbrev SignBits : (w k a i : ℕ) → ℕ → Type 0
SignBits w k a i v = (i < w → bit_at v i ≡ bit_at a i) × (w ≤ i → i < w + k → bit_at v i ≡ bit_at a (w - 1))

pub sign_bits : SignExtendCopiesSign
sign_bits w k a i lo f = go (is_negative w a) refl
  where
    go : (b : Bool) → is_negative w a ≡ b → SignBits w k a i (residue (signed w a) (2 ^ (w + k)))
    go true e =
        let value : (2 ^ k - 1) * 2 ^ w + a ≡ residue (signed w a) (2 ^ (w + k)) = sym (extended_ones w k a f) ∙ extended-negative w k a f e in
        subst (SignBits w k a i) value (
          λ h. bit_at_cat_low (2 ^ k - 1) w a i h,
          λ h below. bit_at_cat_high (2 ^ k - 1) w a i f h ∙ bit_at_ones k (i - w) (omega arith) ∙ sym (sign_one w a lo f e),
        )
    go false e =
        subst (SignBits w k a i) (extended-other w k a f e) (
          λ h. refl,
          λ h below. bit_at_above a w i f h ∙ sym (sign_zero w a e),
        )

pub extract_bits : ExtractTakesBits
extract_bits w i j a n = (
  λ h. bit_low (a / 2 ^ j) (i - j + 1) n h ∙ bit_high a j n,
  λ h. bit_at_above (a / 2 ^ j % 2 ^ (i - j + 1)) (i - j + 1) n (modulo-lt (i - j + 1) (a / 2 ^ j)) h,
)

pub concat_bits : ConcatJoinsBits
concat_bits w v a b i f = (λ h. bit_at_cat_low a v b i h, λ h. bit_at_cat_high a v b i f h)
