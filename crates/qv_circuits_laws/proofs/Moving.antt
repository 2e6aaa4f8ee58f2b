-- The bits that each shift moves, and the operators' values by them.
use Rattle.std.proofs.Common.{◌≡◌, ℕ, zero, suc, ◌+◌, ◌-◌, ◌*◌, ◌/◌, ◌%◌, ◌^◌, ◌≤◌, ◌<◌, Bool, true, false, not, cond, nat_le, List, [], ◌∷◌, ◌++◌, length, take, drop, replicate, get_or, inl, inr, refl, sym, ap, ◌∙◌, subst, arith, lt_of_lt_of_le}
use Rattle.std.proofs.lemmas.Bool.{cases_lt, le-leb, lt-leb, cond-true, cond-false}
use Rattle.std.proofs.lemmas.List.{length-append, length-take, length-drop, length-replicate, take_all, drop_all, take-replicate}
use Rattle.std.proofs.lemmas.Nat.{pow_pos, pow-add, shr-shr, mod_below, div_below, div-mul-add, mul-mod_first}
use Rattle.std.proofs.Math.Nat.{mod-eq_of_lt, div-eq_of_lt, mul-mod_left, div-le_self, div-add-mod}
use Rattle.qv_words.specs.Op.{truth, shifted_left, shifted_right, shifted_signed}
use Rattle.qv_words.specs.Signed.{signed, is_negative, residue, floor_div}
use Rattle.qv_words.specs.Gate.{Lit, no, lit_value}
use Rattle.qv_words.specs.Routine.{top, moved_left, moved_right}
use Rattle.qv_circuits_laws.specs.CircuitLaws.{number_of}
use Rattle.qv_words.proofs.Powers.{pow_le}
use Rattle.qv_words.proofs.TwosComplement.{leb_same}
use Rattle.qv_words.proofs.InverseShifts.{within_other, within_negative}
use Rattle.qv_circuits_laws.proofs.Adding.{double, number-below, truth-below}
use Rattle.qv_circuits_laws.proofs.Multiplying.{number-take}
use Rattle.qv_circuits_laws.proofs.Places.{number-append, number-drop, number-zeros, number-ones}
use Rattle.qv_circuits_laws.proofs.Shifting.{Moves}

pub number-fits : (v : ℕ → Bool) (w : ℕ) (bits : List Lit) → length bits ≡ w → number_of v bits < 2 ^ w
number-fits v w bits h = subst (λ (k : ℕ). number_of v bits < 2 ^ k) h (number-below v bits)

-- what has fewer bits than it is moved by
gone : (w n x : ℕ) → w ≤ n → x < 2 ^ w → x / 2 ^ n ≡ 0
gone w n x h f = div-eq_of_lt (lt_of_lt_of_le f (pow_le w n h))

-- to the left
left-size : (n w : ℕ) (bits : List Lit) → length bits ≡ w → length (moved_left n no bits) ≡ w
left-size n w bits h = omega (arith, length-take (length bits) (replicate n no ++ bits), length-append (replicate n no) bits, length-replicate n no, h)

left-number : (v : ℕ → Bool) → v 1 ≡ true → (n w : ℕ) (bits : List Lit) → length bits ≡ w → number_of v (moved_left n no bits) ≡ number_of v bits * 2 ^ n % 2 ^ w
left-number v one n w bits h =
    let whole : number_of v (replicate n no ++ bits) ≡ number_of v bits * 2 ^ n =
    number-append v (replicate n no) bits ∙ ap (λ k. k + 2 ^ length (replicate n no) * number_of v bits) (number-zeros v n no (ap not one))
    ∙ ap (λ k. 0 + 2 ^ k * number_of v bits) (length-replicate n no) ∙ omega arith in
    number-take v (length bits) (replicate n no ++ bits) ∙ ap (λ k. k % 2 ^ length bits) whole ∙ ap (λ k. number_of v bits * 2 ^ n % 2 ^ k) h

left-past : (w n a : ℕ) → w ≤ n → a * 2 ^ n % 2 ^ w ≡ 0
left-past w n a h =
    let split : 2 ^ n ≡ 2 ^ (n - w) * 2 ^ w = ap (λ k. 2 ^ k) (let same : n ≡ n - w + w = omega (arith, h) in same) ∙ pow-add 2 (n - w) w in
    let whole : a * 2 ^ n ≡ a * 2 ^ (n - w) * 2 ^ w = ap (λ k. a * k) split ∙ omega arith in
    ap (λ k. k % 2 ^ w) whole ∙ mul-mod_left (a * 2 ^ (n - w)) (2 ^ w)

pub left-moves : (v : ℕ → Bool) → v 1 ≡ true → (w : ℕ) → Moves v true no w (λ n a. a * 2 ^ n % 2 ^ w)
left-moves v one w = record {
  size = λ n bits h. left-size n w bits h;
  number = λ n bits h. left-number v one n w bits h;
  none = λ bits h. ap (λ k. k % 2 ^ w) (let same : number_of v bits * 1 ≡ number_of v bits = omega arith in same) ∙ mod-eq_of_lt (number-fits v w bits h);
  twice = λ m n a. mul-mod_first (a * 2 ^ n) (2 ^ m) (2 ^ w) ∙ ap (λ k. k % 2 ^ w) (let same : a * 2 ^ n * 2 ^ m ≡ a * (2 ^ n * 2 ^ m) = omega arith in same ∙ ap (λ k. a * k) (sym (pow-add 2 n m)));
  past = λ n bits h le. left-past w n (number_of v bits) le ∙ sym (number-zeros v w no (ap not one));
}

pub left-value : (w a b : ℕ) → a * 2 ^ b % 2 ^ w ≡ shifted_left w a b
left-value w a b = elim (cases_lt b w) [
  | inl less ↦ sym (cond-false (nat_le w b) 0 (a * 2 ^ b % 2 ^ w) (lt-leb w b less))
  | inr more ↦ left-past w b a more ∙ sym (cond-true (nat_le w b) 0 (a * 2 ^ b % 2 ^ w) (le-leb w b more))
]

-- to the right
right-size : (n w : ℕ) (fill : Lit) (bits : List Lit) → length bits ≡ w → length (moved_right n fill bits) ≡ w
right-size n w fill bits h =
    omega (arith, length-append (drop n bits) (take (length bits) (replicate n fill)), length-drop n bits, length-take (length bits) (replicate n fill), length-replicate n fill, h)

zeros-number : (v : ℕ → Bool) (n : ℕ) (fill : Lit) (bits : List Lit) → lit_value v fill ≡ false → number_of v (moved_right n fill bits) ≡ number_of v bits / 2 ^ n
zeros-number v n fill bits e =
    let filled = take (length bits) (replicate n fill) in
    let nothing : number_of v filled ≡ 0 = number-take v (length bits) (replicate n fill) ∙ ap (λ k. k % 2 ^ length bits) (number-zeros v n fill e) ∙ mod-eq_of_lt (pow_pos (length bits)) in
    number-append v (drop n bits) filled ∙ ap (λ k. number_of v (drop n bits) + 2 ^ length (drop n bits) * k) nothing ∙ omega arith ∙ number-drop v n bits

pub zeros-moves : (v : ℕ → Bool) (fill : Lit) → lit_value v fill ≡ false → (w : ℕ) → Moves v false fill w (λ n a. a / 2 ^ n)
zeros-moves v fill e w = record {
  size = λ n bits h. right-size n w fill bits h;
  number = λ n bits h. zeros-number v n fill bits e;
  none = λ bits h. omega arith;
  twice = λ m n a. shr-shr a n m;
  past = λ n bits h le. gone w n (number_of v bits) le (number-fits v w bits h) ∙ sym (number-zeros v w fill e);
}

pub right-value : (w a b : ℕ) → a < 2 ^ w → a / 2 ^ b ≡ shifted_right w a b
right-value w a b f = elim (cases_lt b w) [
  | inl less ↦ sym (cond-false (nat_le w b) 0 (a / 2 ^ b) (lt-leb w b less))
  | inr more ↦ gone w b a more f ∙ sym (cond-true (nat_le w b) 0 (a / 2 ^ b) (le-leb w b more))
]

-- to the right, with ones: the digits turned are divided
turned-parts : (d r e p : ℕ) → r ≤ p → d + (d + 1 + e) * p ≡ (d + 1 + e) * suc p - 1 - ((d + 1 + e) * suc p - 1 - (suc p * d + r)) / suc p
turned-parts d r e p h =
    let rest : (d + 1 + e) * suc p - 1 - (suc p * d + r) ≡ e * suc p + (p - r) = omega (arith, h) in
    let quotient : ((d + 1 + e) * suc p - 1 - (suc p * d + r)) / suc p ≡ e = ap (λ k. k / suc p) rest ∙ div-mul-add e (suc p) (p - r) (omega arith) in
    omega arith ∙ sym (ap (λ k. (d + 1 + e) * suc p - 1 - k) quotient)

turned-divided : (a p q : ℕ) → 0 < p → a < q * p → a / p + q * (p - 1) ≡ q * p - 1 - (q * p - 1 - a) / p
turned-divided a zero q some f = absurd (omega arith)
turned-divided a (suc p) q some f =
    let d = a / suc p in
    let r = a % suc p in
    let below : d < q = div_below a (suc p) q some f in
    let whole : suc p * d + r ≡ a = div-add-mod a (suc p) in
    let same : d + 1 + (q - 1 - d) ≡ q = omega (arith, below) in
    let low : r ≤ p = omega (arith, mod_below a (suc p) some) in
    let less : suc p - 1 ≡ p = omega arith in
    ap (λ k. d + q * k) less ∙ ap (λ k. d + k * p) (sym same) ∙ turned-parts d r (q - 1 - d) p low
    ∙ ap (λ k. k * suc p - 1 - (k * suc p - 1 - (suc p * d + r)) / suc p) same ∙ ap (λ k. q * suc p - 1 - (q * suc p - 1 - k) / suc p) whole

ones-within : (v : ℕ → Bool) (n w : ℕ) (fill : Lit) (bits : List Lit) → lit_value v fill ≡ true → length bits ≡ w → n ≤ w → number_of v (moved_right n fill bits) ≡ 2 ^ w - 1 - (2 ^ w - 1 - number_of v bits) / 2 ^ n
ones-within v n w fill bits e h le =
    let a = number_of v bits in
    let power : 2 ^ w ≡ 2 ^ (w - n) * 2 ^ n = ap (λ k. 2 ^ k) (let same : w ≡ w - n + n = omega (arith, le) in same) ∙ pow-add 2 (w - n) n in
    let all : take (length bits) (replicate n fill) ≡ replicate n fill = take_all (length bits) (replicate n fill) (omega (arith, length-replicate n fill, h, le)) in
    let ones : number_of v (replicate n fill) ≡ 2 ^ n - 1 = omega (arith, number-ones v n fill e) in
    let size : length (drop n bits) ≡ w - n = length-drop n bits ∙ ap (λ k. k - n) h in
    let fits : a < 2 ^ (w - n) * 2 ^ n = subst (λ (k : ℕ). a < k) power (number-fits v w bits h) in
    number-append v (drop n bits) (take (length bits) (replicate n fill))
    ∙ ap (λ k. number_of v (drop n bits) + 2 ^ length (drop n bits) * number_of v k) all
    ∙ ap (λ k. number_of v (drop n bits) + 2 ^ length (drop n bits) * k) ones
    ∙ ap (λ k. number_of v (drop n bits) + 2 ^ k * (2 ^ n - 1)) size
    ∙ ap (λ k. k + 2 ^ (w - n) * (2 ^ n - 1)) (number-drop v n bits)
    ∙ turned-divided a (2 ^ n) (2 ^ (w - n)) (pow_pos n) fits
    ∙ ap (λ k. k - 1 - (k - 1 - a) / 2 ^ n) (sym power)

-- all digits are moved out
turned-gone : (w n a : ℕ) → w ≤ n → (2 ^ w - 1 - a) / 2 ^ n ≡ 0
turned-gone w n a h = gone w n (2 ^ w - 1 - a) h (omega (arith, pow_pos w))

ones-past : (v : ℕ → Bool) (n w : ℕ) (fill : Lit) (bits : List Lit) → lit_value v fill ≡ true → length bits ≡ w → w ≤ n → number_of v (moved_right n fill bits) ≡ 2 ^ w - 1 - (2 ^ w - 1 - number_of v bits) / 2 ^ n
ones-past v n w fill bits e h le =
    let short : length bits ≤ n = omega (arith, h, le) in
    let none : drop n bits ≡ [] = drop_all n bits short in
    let all : take (length bits) (replicate n fill) ≡ replicate (length bits) fill = take-replicate (length bits) n fill short in
    let ones : number_of v (replicate w fill) ≡ 2 ^ w - 1 - 0 = omega (arith, number-ones v w fill e) in
    ap (λ k. number_of v (k ++ take (length bits) (replicate n fill))) none ∙ ap (number_of v) all ∙ ap (λ k. number_of v (replicate k fill)) h ∙ ones
    ∙ ap (λ k. 2 ^ w - 1 - k) (sym (turned-gone w n (number_of v bits) le))

turned-twice : (w n m a : ℕ) → 2 ^ w - 1 - (2 ^ w - 1 - (2 ^ w - 1 - (2 ^ w - 1 - a) / 2 ^ n)) / 2 ^ m ≡ 2 ^ w - 1 - (2 ^ w - 1 - a) / 2 ^ (n + m)
turned-twice w n m a =
    let c = (2 ^ w - 1 - a) / 2 ^ n in
    let low : c ≤ 2 ^ w - 1 - a = div-le_self (2 ^ w - 1 - a) (2 ^ n) in
    let back : 2 ^ w - 1 - (2 ^ w - 1 - c) ≡ c = omega (arith, low) in
    ap (λ k. 2 ^ w - 1 - k / 2 ^ m) back ∙ ap (λ k. 2 ^ w - 1 - k) (shr-shr (2 ^ w - 1 - a) n m)

pub ones-moves : (v : ℕ → Bool) (fill : Lit) → lit_value v fill ≡ true → (w : ℕ) → Moves v false fill w (λ n a. 2 ^ w - 1 - (2 ^ w - 1 - a) / 2 ^ n)
ones-moves v fill e w = record {
  size = λ n bits h. right-size n w fill bits h;
  number = λ n bits h. elim (cases_lt n w) [ inl less ↦ ones-within v n w fill bits e h (omega (arith, less)) | inr more ↦ ones-past v n w fill bits e h more ];
  none = λ bits h. omega (arith, number-fits v w bits h);
  twice = λ m n a. turned-twice w n m a;
  past = λ n bits h le. ap (λ k. 2 ^ w - 1 - k) (turned-gone w n (number_of v bits) le) ∙ omega (arith, number-ones v w fill e);
}

-- the top bit is the sign
only-bit : (b : Bool) → b ≡ nat_le 1 (truth b + 2 * 0)
only-bit true = refl
only-bit false = refl

pub top-value : (v : ℕ → Bool) → v 1 ≡ true → (a : List Lit) → lit_value v (top a) ≡ is_negative (length a) (number_of v a)
top-value v one [] = ap not one
top-value v one (l ∷ []) = only-bit (lit_value v l)
top-value v one (l ∷ m ∷ ms) =
    let last : suc (suc (length ms)) - 1 ≡ suc (length ms) = omega arith in
    let before : suc (length ms) - 1 ≡ length ms = omega arith in
    let n = number_of v (m ∷ ms) in
    let low = truth-below (lit_value v l) in
    ap (λ i. lit_value v (get_or (l ∷ m ∷ ms) i no)) last ∙ sym (ap (λ i. lit_value v (get_or (m ∷ ms) i no)) before)
    ∙ top-value v one (m ∷ ms)
    ∙ ap (λ i. nat_le (2 ^ i) n) before
    ∙ leb_same (2 ^ length ms) n (2 * 2 ^ length ms) (truth (lit_value v l) + 2 * n) (λ h. omega (arith, h)) (λ h. omega (arith, h, low))
    ∙ sym (ap (λ i. nat_le i (truth (lit_value v l) + 2 * n)) (ap (λ i. 2 ^ i) last ∙ double (length ms)))

-- a shift of a negative number, and of another
pub signed-ones : (w a b : ℕ) → is_negative w a ≡ true → 2 ^ w - 1 - (2 ^ w - 1 - a) / 2 ^ b ≡ shifted_signed w a b
signed-ones w a b e = elim (cases_lt b w) [
  | inl less ↦
      sym (cond-false (nat_le w b) (cond (is_negative w a) (2 ^ w - 1) 0) (residue (floor_div (signed w a) (2 ^ b)) (2 ^ w)) (lt-leb w b less) ∙ within_negative w a b e)
  | inr more ↦
      ap (λ k. 2 ^ w - 1 - k) (turned-gone w b a more) ∙ omega arith ∙ sym (cond-true (is_negative w a) (2 ^ w - 1) 0 e)
      ∙ sym (cond-true (nat_le w b) (cond (is_negative w a) (2 ^ w - 1) 0) (residue (floor_div (signed w a) (2 ^ b)) (2 ^ w)) (le-leb w b more))
]

pub signed-zeros : (w a b : ℕ) → is_negative w a ≡ false → a < 2 ^ w → a / 2 ^ b ≡ shifted_signed w a b
signed-zeros w a b e f = elim (cases_lt b w) [
  | inl less ↦
      sym (cond-false (nat_le w b) (cond (is_negative w a) (2 ^ w - 1) 0) (residue (floor_div (signed w a) (2 ^ b)) (2 ^ w)) (lt-leb w b less) ∙ within_other w a b e f)
  | inr more ↦
      gone w b a more f ∙ sym (cond-false (is_negative w a) (2 ^ w - 1) 0 e)
      ∙ sym (cond-true (nat_le w b) (cond (is_negative w a) (2 ^ w - 1) 0) (residue (floor_div (signed w a) (2 ^ b)) (2 ^ w)) (le-leb w b more))
]
