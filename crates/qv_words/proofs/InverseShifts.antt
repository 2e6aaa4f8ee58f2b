-- The rows of shifts solve them.
use Rattle.std.proofs.Common.{◌≡◌, ℕ, zero, suc, ◌+◌, ◌-◌, ◌*◌, ◌/◌, ◌%◌, ◌^◌, ◌≤◌, ◌<◌, ◌==◌, nat_le, nat_lt, Bool, true, false, cond, inl, inr, [], ◌∷◌, refl, sym, ap, ◌∙◌, subst, arith, lt_of_le_of_lt}
use Rattle.std.proofs.lemmas.Bool.{cases_lt, eqb-true, eqb-false, le-leb, lt-leb, leb-true, leb-false, lt-ltb, le-ltb, cond-true, cond-false}
use Rattle.std.proofs.lemmas.Nat.{pow_pos, pow-add, shl-shr, mod-pow-add, mod_below, shr_high, shr_below, mul-le}
use Rattle.std.proofs.Math.Nat.{mod-eq_of_lt, div-le_self, mul-mod_left, div-mul-le_self, mul-add-mod_self_left}
use Rattle.qv_words.specs.declared.sort.Sort.TheVariants.{Bits}
use Rattle.qv_words.specs.declared.op.Op.{Op}
use Rattle.qv_words.specs.declared.op.Op.TheVariants.{BvShl, BvLshr, BvAshr}
use Rattle.qv_words.specs.Signed.{signed, is_negative, residue, floor_div}
use Rattle.qv_words.specs.Op.{op_value, shifted_left, shifted_right, shifted_signed}
use Rattle.qv_words.specs.Inverse.{Solves}
use Rattle.qv_words.proofs.TwosComplement.{halves, signed-negative, signed-other}
use Rattle.qv_words.proofs.InverseCases.{OfRows, of_pairs}
use Rattle.qv_words.proofs.InverseRows.{of_target_other, of_amount, of_signed, first_amount}
use Rattle.qv_words.proofs.InverseSolves.{solves}

-- what is left of a product with a power of 2 is a multiple of it
pub shifted_multiple : (w x s : ℕ) → s ≤ w → x * 2 ^ s % 2 ^ w ≡ x % 2 ^ (w - s) * 2 ^ s
shifted_multiple w x s h =
    let width : w ≡ w - s + s = omega arith in
    ap (λ n. x * 2 ^ s % 2 ^ n) width ∙ mod-pow-add (x * 2 ^ s) (w - s) s
    ∙ ap (λ n. n % 2 ^ (w - s) * 2 ^ s + x * 2 ^ s % 2 ^ s) (shl-shr x s)
    ∙ ap (λ n. x % 2 ^ (w - s) * 2 ^ s + n) (mul-mod_left x (2 ^ s)) ∙ omega arith

-- a multiple that is shifted to the right and back
pub multiple_back : (t q s : ℕ) → q * 2 ^ s ≡ t → t / 2 ^ s * 2 ^ s ≡ t
multiple_back t q s e = ap (λ n. n / 2 ^ s * 2 ^ s) (sym e) ∙ ap (λ n. n * 2 ^ s) (shl-shr q s) ∙ e

left_first : (w x s t : ℕ) → shifted_left w x s ≡ t → shifted_left w (shifted_right w t s) s ≡ t
left_first w x s t = go (nat_le w s) refl
  where
    go : (b : Bool) → nat_le w s ≡ b → cond b 0 (x * 2 ^ s % 2 ^ w) ≡ t → cond b 0 (cond b 0 (t / 2 ^ s) * 2 ^ s % 2 ^ w) ≡ t
    go true e is = is
    go false e is =
        let below : s < w = leb-false w s e in
        let fits : t < 2 ^ w = subst (λ (n : ℕ). n < 2 ^ w) is (mod_below (x * 2 ^ s) (2 ^ w) (pow_pos w)) in
        ap (λ n. n % 2 ^ w) (multiple_back t (x % 2 ^ (w - s)) s (sym (shifted_multiple w x s (omega arith)) ∙ is)) ∙ mod-eq_of_lt fits

right_first : (w x s t : ℕ) → x < 2 ^ w → shifted_right w x s ≡ t → shifted_right w (shifted_left w t s) s ≡ t
right_first w x s t fx = go (nat_le w s)
  where
    go : (b : Bool) → cond b 0 (x / 2 ^ s) ≡ t → cond b 0 (cond b 0 (t * 2 ^ s % 2 ^ w) / 2 ^ s) ≡ t
    go true is = is
    go false is =
        let most : t * 2 ^ s ≤ x = subst (λ (n : ℕ). n * 2 ^ s ≤ x) is (div-mul-le_self x (2 ^ s)) in
        ap (λ n. n / 2 ^ s) (mod-eq_of_lt (lt_of_le_of_lt most fx)) ∙ shl-shr t s

-- the first amount that gives the target, where some amount from i on does, and all past the width give one value
amount_found : (shift : Op) (w s t x i n : ℕ) → i + n ≡ w → i ≤ x → op_value shift (Bits w ∷ Bits w ∷ []) (s ∷ x ∷ []) ≡ t → (w ≤ x → op_value shift (Bits w ∷ Bits w ∷ []) (s ∷ w ∷ []) ≡ op_value shift (Bits w ∷ Bits w ∷ []) (s ∷ x ∷ [])) → op_value shift (Bits w ∷ Bits w ∷ []) (s ∷ first_amount shift w s t i n ∷ []) ≡ t
amount_found shift w s t x i zero whole from is past = past (omega arith) ∙ is
amount_found shift w s t x i (suc n) whole from is past = go (value i == t) refl (λ later. amount_found shift w s t x (suc i) n (omega arith) later is past)
  where
    value : ℕ → ℕ
    value k = op_value shift (Bits w ∷ Bits w ∷ []) (s ∷ k ∷ [])

    go : (b : Bool) → (value i == t) ≡ b → (suc i ≤ x → value (first_amount shift w s t (suc i) n) ≡ t) → value (cond b i (first_amount shift w s t (suc i) n)) ≡ t
    go true e rest = eqb-true (value i) t e
    go false e rest =
        rest (elim (cases_lt i x) [ inl less ↦ omega (arith, less) | inr more ↦ absurd (let same : i ≡ x = omega (arith, more) in eqb-false (value i) t e (ap value same ∙ is)) ])

left_past : (w s x : ℕ) → w ≤ x → shifted_left w s w ≡ shifted_left w s x
left_past w s x h = cond-true (nat_le w w) 0 (s * 2 ^ w % 2 ^ w) (le-leb w w (omega arith)) ∙ sym (cond-true (nat_le w x) 0 (s * 2 ^ x % 2 ^ w) (le-leb w x h))

right_past : (w s x : ℕ) → w ≤ x → shifted_right w s w ≡ shifted_right w s x
right_past w s x h = cond-true (nat_le w w) 0 (s / 2 ^ w) (le-leb w w (omega arith)) ∙ sym (cond-true (nat_le w x) 0 (s / 2 ^ x) (le-leb w x h))

signed_past : (w s x : ℕ) → w ≤ x → shifted_signed w s w ≡ shifted_signed w s x
signed_past w s x h =
    cond-true (nat_le w w) (cond (is_negative w s) (2 ^ w - 1) 0) (residue (floor_div (signed w s) (2 ^ w)) (2 ^ w)) (le-leb w w (omega arith))
    ∙ sym (cond-true (nat_le w x) (cond (is_negative w s) (2 ^ w - 1) 0) (residue (floor_div (signed w s) (2 ^ x)) (2 ^ w)) (le-leb w x h))

pub shl_solved : OfRows (Solves BvShl) BvShl
shl_solved =
    of_pairs (Solves BvShl) BvShl (λ w v. refl) (λ w r value l m e. tt)
    (λ w value l. solves BvShl 0 (Bits w ∷ Bits w ∷ []) value _ w (λ s t. shifted_right w t s) (of_target_other BvLshr w refl l) (λ s t x literal fx fs is. left_first w x s t is))
    (λ w value l. solves BvShl 1 (Bits w ∷ Bits w ∷ []) value _ w (λ s t. first_amount BvShl w s t 0 w) (of_amount BvShl w refl l) (λ s t x literal fx fs is. amount_found BvShl w s t x 0 w (omega arith) (omega arith) is (left_past w s x)))

pub lshr_solved : OfRows (Solves BvLshr) BvLshr
lshr_solved =
    of_pairs (Solves BvLshr) BvLshr (λ w v. refl) (λ w r value l m e. tt)
    (λ w value l. solves BvLshr 0 (Bits w ∷ Bits w ∷ []) value _ w (λ s t. shifted_left w t s) (of_target_other BvShl w refl l) (λ s t x literal fx fs is. right_first w x s t fx is))
    (λ w value l. solves BvLshr 1 (Bits w ∷ Bits w ∷ []) value _ w (λ s t. first_amount BvLshr w s t 0 w) (of_amount BvLshr w refl l) (λ s t x literal fx fs is. amount_found BvLshr w s t x 0 w (omega arith) (omega arith) is (right_past w s x)))

-- a shift with the sign, by the sign
pub within_other : (w a s : ℕ) → is_negative w a ≡ false → a < 2 ^ w → residue (floor_div (signed w a) (2 ^ s)) (2 ^ w) ≡ a / 2 ^ s
within_other w a s e f = ap (λ z. residue (floor_div z (2 ^ s)) (2 ^ w)) (signed-other w a e) ∙ mod-eq_of_lt (lt_of_le_of_lt (div-le_self a (2 ^ s)) f)

pub within_negative : (w a s : ℕ) → is_negative w a ≡ true → residue (floor_div (signed w a) (2 ^ s)) (2 ^ w) ≡ 2 ^ w - 1 - (2 ^ w - 1 - a) / 2 ^ s
within_negative w a s e =
    ap (λ z. residue (floor_div z (2 ^ s)) (2 ^ w)) (signed-negative w a e)
    ∙ ap (λ n. 2 ^ w - 1 - n) (mod-eq_of_lt (lt_of_le_of_lt (div-le_self (2 ^ w - 1 - a) (2 ^ s)) (omega (arith, pow_pos w))))

-- the row for a negative number, where q is what the shift leaves of its digits turned: it is 2^w - (q + 1) * 2^s
negative_row : (w q s : ℕ) → s < w → (q + 1) * 2 ^ s ≤ 2 ^ w → (2 ^ w - 1 - q) * 2 ^ s % 2 ^ w ≡ 2 ^ w - (q + 1) * 2 ^ s
negative_row w q s h fits = go (2 ^ w) (2 ^ s) (pow_pos s) fits
  where
    go : (m p : ℕ) → 0 < p → (q + 1) * p ≤ m → (m - 1 - q) * p % m ≡ m - (q + 1) * p
    go m zero pp le = absurd (omega arith)
    go m (suc p) pp le =
        let less : q + 1 ≤ m = omega (arith, le) in
        let some : 0 < (q + 1) * suc p = omega arith in
        let rest : (m - 1 - q) * suc p + (q + 1) * suc p ≡ m * suc p = sums (m - 1 - q) (q + 1) (omega arith) in
        let whole : (m - 1 - q) * suc p ≡ m * p + (m - (q + 1) * suc p) = omega (arith, rest, le) in
        ap (λ n. n % m) whole ∙ mul-add-mod_self_left m p (m - (q + 1) * suc p) ∙ mod-eq_of_lt (omega arith)
      where
        sums : (a b : ℕ) → a + b ≡ m → a * suc p + b * suc p ≡ m * suc p
        sums a b e = subst (λ (n : ℕ). a * suc p + b * suc p ≡ n * suc p) e (omega arith)

signed_first : (w x s t : ℕ) → 1 ≤ w → x < 2 ^ w → shifted_signed w x s ≡ t → shifted_signed w (cond (nat_lt s w) (shifted_left w t s) t) s ≡ t
signed_first w x s t lo fx is = elim (cases_lt s w) [ inl less ↦ inside less | inr more ↦ outside more ]
  where
    r : ℕ → ℕ
    r a = residue (floor_div (signed w a) (2 ^ s)) (2 ^ w)

    signs : ℕ → ℕ
    signs a = cond (is_negative w a) (2 ^ w - 1) 0

    past : (a : ℕ) → w ≤ s → shifted_signed w a s ≡ signs a
    past a more = cond-true (nat_le w s) (signs a) (r a) (le-leb w s more)

    within : (a : ℕ) → s < w → shifted_signed w a s ≡ r a
    within a less = cond-false (nat_le w s) (signs a) (r a) (lt-leb w s less)

    all_signs : (b : Bool) → is_negative w x ≡ b → signs (cond b (2 ^ w - 1) 0) ≡ cond b (2 ^ w - 1) 0
    all_signs true e = cond-true (is_negative w (2 ^ w - 1)) (2 ^ w - 1) 0 (le-leb (2 ^ (w - 1)) (2 ^ w - 1) (omega (arith, halves w lo, pow_pos (w - 1))))
    all_signs false e = cond-false (is_negative w 0) (2 ^ w - 1) 0 (lt-leb (2 ^ (w - 1)) 0 (pow_pos (w - 1)))

    outside : w ≤ s → shifted_signed w (cond (nat_lt s w) (shifted_left w t s) t) s ≡ t
    outside more =
        let known : signs x ≡ t = sym (past x more) ∙ is in
        ap (λ n. shifted_signed w n s) (cond-false (nat_lt s w) (shifted_left w t s) t (le-ltb s w more)) ∙ past t more
        ∙ ap signs (sym known) ∙ all_signs (is_negative w x) refl ∙ known

    half : s < w → 2 ^ (w - 1) ≡ 2 ^ (w - 1 - s) * 2 ^ s
    half less = ap (λ n. 2 ^ n) (omega arith) ∙ pow-add 2 (w - 1 - s) s

    -- the digits that are left of a number below half of the values
    few : (n : ℕ) → s < w → n < 2 ^ (w - 1) → (n / 2 ^ s + 1) * 2 ^ s ≤ 2 ^ (w - 1)
    few n less h =
        let width : w - 1 ≡ w - 1 - s + s = omega arith in
        let fewer : n / 2 ^ s < 2 ^ (w - 1 - s) = shr_below n (w - 1 - s) s (subst (λ (k : ℕ). n < 2 ^ k) width h) in
        omega (arith, half less, mul-le (n / 2 ^ s + 1) (2 ^ s) (2 ^ (w - 1 - s)) (2 ^ s) (omega (arith, fewer)) (omega arith))

    by_sign : (b : Bool) → is_negative w x ≡ b → s < w → r x ≡ t → r (t * 2 ^ s % 2 ^ w) ≡ t
    by_sign false e less known =
        let twice = halves w lo in
        let digits : x / 2 ^ s ≡ t = sym (within_other w x s e fx) ∙ known in
        let low : x < 2 ^ (w - 1) = leb-false (2 ^ (w - 1)) x e in
        let most : t * 2 ^ s ≤ x = subst (λ (n : ℕ). n * 2 ^ s ≤ x) digits (div-mul-le_self x (2 ^ s)) in
        let whole : t * 2 ^ s % 2 ^ w ≡ t * 2 ^ s = mod-eq_of_lt (lt_of_le_of_lt most fx) in
        let other : is_negative w (t * 2 ^ s) ≡ false = lt-leb (2 ^ (w - 1)) (t * 2 ^ s) (lt_of_le_of_lt most low) in
        ap r whole ∙ within_other w (t * 2 ^ s) s other (lt_of_le_of_lt most fx) ∙ shl-shr t s
    by_sign true e less known =
        let twice = halves w lo in
        let high : 2 ^ (w - 1) ≤ x = leb-true (2 ^ (w - 1)) x e in
        let q : ℕ = (2 ^ w - 1 - x) / 2 ^ s in
        let digits : 2 ^ w - 1 - q ≡ t = sym (within_negative w x s e) ∙ known in
        let fits : (q + 1) * 2 ^ s ≤ 2 ^ (w - 1) = few (2 ^ w - 1 - x) less (omega (arith, twice)) in
        let some : 0 < 2 ^ s = pow_pos s in
        let row : t * 2 ^ s % 2 ^ w ≡ 2 ^ w - (q + 1) * 2 ^ s = ap (λ n. n * 2 ^ s % 2 ^ w) (sym digits) ∙ negative_row w q s less (omega (arith, twice, fits)) in
        let negative : is_negative w (2 ^ w - (q + 1) * 2 ^ s) ≡ true = le-leb (2 ^ (w - 1)) (2 ^ w - (q + 1) * 2 ^ s) (omega (arith, twice, fits)) in
        let turned : 2 ^ w - 1 - (2 ^ w - (q + 1) * 2 ^ s) ≡ q * 2 ^ s + (2 ^ s - 1) = omega (arith, twice, fits, some) in
        ap r row ∙ within_negative w (2 ^ w - (q + 1) * 2 ^ s) s negative
        ∙ ap (λ n. 2 ^ w - 1 - n / 2 ^ s) turned ∙ ap (λ n. 2 ^ w - 1 - n) (shr_high q s (2 ^ s - 1) (omega arith)) ∙ digits

    inside : s < w → shifted_signed w (cond (nat_lt s w) (shifted_left w t s) t) s ≡ t
    inside less =
        let row : cond (nat_lt s w) (shifted_left w t s) t ≡ t * 2 ^ s % 2 ^ w =
        cond-true (nat_lt s w) (shifted_left w t s) t (lt-ltb s w less) ∙ cond-false (nat_le w s) 0 (t * 2 ^ s % 2 ^ w) (lt-leb w s less) in
        ap (λ n. shifted_signed w n s) row ∙ within (t * 2 ^ s % 2 ^ w) less ∙ by_sign (is_negative w x) refl less (sym (within x less) ∙ is)

pub ashr_solved : OfRows (Solves BvAshr) BvAshr
ashr_solved =
    of_pairs (Solves BvAshr) BvAshr (λ w v. refl) (λ w r value l m e. tt)
    (λ w value l. solves BvAshr 0 (Bits w ∷ Bits w ∷ []) value _ w (λ s t. cond (nat_lt s w) (shifted_left w t s) t) (of_signed w l) (λ s t x literal fx fs is. signed_first w x s t l.0 fx is))
    (λ w value l. solves BvAshr 1 (Bits w ∷ Bits w ∷ []) value _ w (λ s t. first_amount BvAshr w s t 0 w) (of_amount BvAshr w refl l) (λ s t x literal fx fs is. amount_found BvAshr w s t x 0 w (omega arith) (omega arith) is (signed_past w s x)))
