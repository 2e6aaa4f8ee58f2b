-- The tables of small rules: each outcome has the value that the operator has.
use Rattle.std.proofs.Common.{◌≡◌, ℕ, zero, suc, ◌+◌, ◌-◌, ◌*◌, ◌/◌, ◌%◌, ◌^◌, ◌<◌, ◌≤◌, ◌==◌, Bool as Truth_value, true, false, cond, not, Option, Some, None, [], ◌∷◌, refl, sym, ap, ◌∙◌, subst, arith, lit<, inl, inr, bit_xor}
use Rattle.std.specs.Prelude.{ℤ, pos, negsuc, option_map, option_and_then, nat_lt, nat_le, int_lt, int_le, ◌&&◌, ◌||◌, bit_and, bit_or}
use Rattle.std.specs.Int.Bits.{and_self, or_self, xor_self, xor_assoc, xor_zero_r}
use Rattle.std.proofs.Math.Nat.{div-eq_of_lt, mod-eq_of_lt, mod-eq-sub-mod, mod_self, zero-div, zero-mod}
use Rattle.std.proofs.lemmas.Nat.{pow_pos, pow_below, xor_comm, and_comm, or_comm, and_mask, and_le_r, le_or_r, or_lt, or_disjoint, and-not}
use Rattle.std.proofs.lemmas.Bool.{le-ltb, le-leb, lt-leb, leb-true, leb-false, ltb-true, eqb-true, cases_eq, cases_lt, eq-eqb, ne_eqb}
use Rattle.std.proofs.lemmas.Bool.Decides.{nat_tests}
use Rattle.qv_words.specs.declared.sort.Sort.{Sort}
use Rattle.qv_words.specs.declared.sort.Sort.TheVariants.{Bool, Bits}
use Rattle.qv_words.specs.declared.op.Op.{Op}
use Rattle.qv_words.specs.declared.op.Op.TheVariants.{And, Or, Xor, Implies, Equal, BvAnd, BvOr, BvXor, BvNand, BvNor, BvXnor, BvAdd, BvSub, BvMul, BvUdiv, BvUrem, BvShl, BvLshr, BvAshr, BvUlt, BvUle, BvUgt, BvUge, BvSlt, BvSle, BvSgt, BvSge, Extract, Repeat, ZeroExtend, SignExtend, RotateLeft, RotateRight}
use Rattle.qv_words.specs.Sort.{IsLawful, IsValueOf, width_of}
use Rattle.qv_words.specs.Signed.{is_negative, signed, floor_div, residue}
use Rattle.qv_words.specs.Rank.{result_sort, two_widths, two_bools, two_alike, one_width, bits_of, bits_between, bits_repeated}
use Rattle.qv_words.specs.Op.{op_value, truth, remainder, shifted_left, shifted_right, shifted_signed, copies, turned}
use Rattle.qv_words.proofs.InSort.{two_bools-parts, two_alike-parts, two_widths-parts}
use Rattle.qv_words.proofs.InverseCases.{bits_same}
use Rattle.qv_words.proofs.InverseRows.{below_pow}
use Rattle.qv_words.proofs.InverseValues.{complement_twice}
use Rattle.qv_words.proofs.Passing.{some-same}
use Rattle.qv_words.proofs.TwosComplement.{halves, signed-negative, signed-other}
use Rattle.qv_rewrite_passes.specs.declared.outcome.Outcome.{Outcome}
use Rattle.qv_rewrite_passes.specs.declared.outcome.Outcome.TheVariants.{Argument, Complement, Number, Truth, Under}
use Rattle.qv_rewrite_passes.specs.Simps.{greatest, where_is, power_in, at_powers, by_either, by_first, by_second, of_twins, of_opposites, of_one}
use Rattle.qv_rewrite_passes.proofs.Linking.{xor_zero_l}
use Rattle.qv_rewrite_passes.proofs.Chaining.{below-two, turned-all}

-- an outcome for an argument of sort s is right where the application has sort q, and at the
-- argument's value the value of f
abbrev pub Fits : (s q : Sort) → (ℕ → ℕ) → Outcome → Type 0
Fits s q f Argument = (s ≡ q) × ((x : ℕ) → IsValueOf x s → f x ≡ x)
Fits s q f Complement = (s ≡ q) × ((x : ℕ) → IsValueOf x s → f x ≡ greatest s - x)
Fits s q f (Number n) = (s ≡ q) × IsValueOf n s × ((x : ℕ) → IsValueOf x s → f x ≡ n)
Fits s q f (Truth b) = (Bool ≡ q) × ((x : ℕ) → IsValueOf x s → f x ≡ truth b)
Fits s q f (Under o n) = (result_sort o (s ∷ s ∷ []) ≡ Some q) × IsValueOf n s × ((x : ℕ) → IsValueOf x s → f x ≡ op_value o (s ∷ s ∷ []) (x ∷ n ∷ []))

pub fits-like : (s q : Sort) (f g : ℕ → ℕ) (r : Outcome) → ((x : ℕ) → IsValueOf x s → g x ≡ f x) → Fits s q f r → Fits s q g r
fits-like s q f g Argument h k = (k.0, λ x i. h x i ∙ k.1 x i)
fits-like s q f g Complement h k = (k.0, λ x i. h x i ∙ k.1 x i)
fits-like s q f g (Number n) h k = (k.0, k.1, λ x i. h x i ∙ k.2 x i)
fits-like s q f g (Truth b) h k = (k.0, λ x i. h x i ∙ k.1 x i)
fits-like s q f g (Under o n) h k = (k.0, k.1, λ x i. h x i ∙ k.2 x i)

-- ---- the outcome of a table

one : (P : Outcome → Type 0) (only : Outcome) → P only → (r : Outcome) → Some only ≡ Some r → P r
one P only h r e = subst P (some-same only r e) h

where-is : (P : Outcome → Type 0) (k n : ℕ) (only : Outcome) → (n ≡ k → P only) → (r : Outcome) → where_is k n only ≡ Some r → P r
where-is P k n only h r e = go (n == k) refl e
  where
    go : (b : Truth_value) → (n == k) ≡ b → cond b (Some only) None ≡ Some r → P r
    go true is f = one P only (h (eqb-true n k is)) r f
    go false is f = cc

either-of : (P : Outcome → Type 0) (j k n : ℕ) (low high : Outcome) → (n ≡ j → P low) → (n ≡ k → P high) → (r : Outcome) → cond (n == j) (Some low) (where_is k n high) ≡ Some r → P r
either-of P j k n low high h m r e = go (n == j) refl e
  where
    go : (b : Truth_value) → (n == j) ≡ b → cond b (Some low) (where_is k n high) ≡ Some r → P r
    go true is f = one P low (h (eqb-true n j is)) r f
    go false is f = where-is P k n high m r f

either-end : (P : Outcome → Type 0) (k n : ℕ) (low high : Outcome) → (n ≡ 0 → P low) → (n ≡ k → P high) → (r : Outcome) → cond (n == 0) (Some low) (where_is k n high) ≡ Some r → P r
either-end P k n low high h j = either-of P 0 k n low high h j

or-past : (P : Outcome → Type 0) (w n : ℕ) (low past : Outcome) → (n ≡ 0 → P low) → (nat_le w n ≡ true → P past) → (r : Outcome) → cond (n == 0) (Some low) (cond (nat_le w n) (Some past) None) ≡ Some r → P r
or-past P w n low past h j r e = go (n == 0) (nat_le w n) refl refl e
  where
    go : (b d : Truth_value) → (n == 0) ≡ b → nat_le w n ≡ d → cond b (Some low) (cond d (Some past) None) ≡ Some r → P r
    go true d is at f = one P low (h (eqb-true n 0 is)) r f
    go false true is at f = one P past (j at) r f
    go false false is at f = cc

-- the exponent of a power of two
pub power-is : (w n k : ℕ) → power_in w n ≡ Some k → (k < w) × (n ≡ 2 ^ k)
power-is zero n k e = cc
power-is (suc w) n k e = go (power-is w n k) (n == 2 ^ w) refl e
  where
    go : (power_in w n ≡ Some k → (k < w) × (n ≡ 2 ^ k)) → (b : Truth_value) → (n == 2 ^ w) ≡ b → cond b (Some w) (power_in w n) ≡ Some k → (k < suc w) × (n ≡ 2 ^ k)
    go others true is f =
        let same : w ≡ k = some-same w k f in
        (omega (arith, same), eqb-true n (2 ^ w) is ∙ ap (λ j. 2 ^ j) same)
    go others false is f =
        let low : k < w = (others f).0 in
        (omega (arith, low), (others f).1)

at-powers : (P : Outcome → Type 0) (s : Sort) (n : ℕ) (low high : Outcome) (power : ℕ → Outcome) → (n ≡ 0 → P low) → (n ≡ 1 → P high) → ((k : ℕ) → k < width_of s → n ≡ 2 ^ k → P (power k)) → (r : Outcome) → at_powers s n low high power ≡ Some r → P r
at-powers P s n low high power h j m r e = go (n == 0) refl (n == 1) refl (power_in (width_of s) n) refl e
  where
    go : (b : Truth_value) → (n == 0) ≡ b → (d : Truth_value) → (n == 1) ≡ d → (p : Option ℕ) → power_in (width_of s) n ≡ p → cond b (Some low) (cond d (Some high) (option_map power p)) ≡ Some r → P r
    go true is d at p found f = one P low (h (eqb-true n 0 is)) r f
    go false is true at p found f = one P high (j (eqb-true n 1 at)) r f
    go false is false at None found f = cc
    go false is false at (Some k) found f =
        let parts = power-is (width_of s) n k found in
        one P (power k) (m k parts.0 parts.1) r f

-- ---- the sorts of an operator's arguments

on-wide : (P : Sort → Sort → Sort → Type 0) → ((w : ℕ) → P (Bits w) (Bits w) (Bits w)) → (s t q : Sort) → option_map Bits (two_widths (s ∷ t ∷ [])) ≡ Some q → P s t q
on-wide P h s t q e = go (two_widths (s ∷ t ∷ [])) refl e
  where
    go : (p : Option ℕ) → two_widths (s ∷ t ∷ []) ≡ p → option_map Bits p ≡ Some q → P s t q
    go None is f = cc
    go (Some w) is f =
        let k = two_widths-parts (s ∷ t ∷ []) w is in
        let first : Bits w ≡ s = cc in
        let second : Bits w ≡ t = cc in
        subst (λ x. P x t q) first (subst (λ x. P (Bits w) x q) second (subst (P (Bits w) (Bits w)) (some-same (Bits w) q f) (h w)))

on-compared : (P : Sort → Sort → Sort → Type 0) → ((w : ℕ) → P (Bits w) (Bits w) Bool) → (s t q : Sort) → option_map (λ _. Bool) (two_widths (s ∷ t ∷ [])) ≡ Some q → P s t q
on-compared P h s t q e = go (two_widths (s ∷ t ∷ [])) refl e
  where
    go : (p : Option ℕ) → two_widths (s ∷ t ∷ []) ≡ p → option_map (λ _. Bool) p ≡ Some q → P s t q
    go None is f = cc
    go (Some w) is f =
        let k = two_widths-parts (s ∷ t ∷ []) w is in
        let first : Bits w ≡ s = cc in
        let second : Bits w ≡ t = cc in
        subst (λ x. P x t q) first (subst (λ x. P (Bits w) x q) second (subst (P (Bits w) (Bits w)) (some-same Bool q f) (h w)))

on-alike : (P : Sort → Sort → Sort → Type 0) → ((s : Sort) → P s s Bool) → (s t q : Sort) → option_map (λ _. Bool) (two_alike (s ∷ t ∷ [])) ≡ Some q → P s t q
on-alike P h s t q e = go (two_alike (s ∷ t ∷ [])) refl e
  where
    go : (p : Option Sort) → two_alike (s ∷ t ∷ []) ≡ p → option_map (λ _. Bool) p ≡ Some q → P s t q
    go None is f = cc
    go (Some u) is f =
        let k = two_alike-parts (s ∷ t ∷ []) u is in
        let first : u ≡ s = cc in
        let second : u ≡ t = cc in
        subst (λ x. P x t q) first (subst (λ x. P u x q) second (subst (P u u) (some-same Bool q f) (h u)))

on-bools : (P : Sort → Sort → Sort → Type 0) → P Bool Bool Bool → (s t q : Sort) → two_bools (s ∷ t ∷ []) ≡ Some q → P s t q
on-bools P h s t q e =
    let k = two_bools-parts (s ∷ t ∷ []) q e in
    let first : Bool ≡ s = (let same = k.0 in cc) in
    let second : Bool ≡ t = (let same = k.0 in cc) in
    subst (λ x. P x t q) first (subst (λ x. P Bool x q) second (subst (P Bool Bool) k.1 h))

-- ---- numbers

and-zero : (x : ℕ) → bit_and x 0 ≡ 0
and-zero x = let low : bit_and x 0 ≤ 0 = and_le_r x 0 in omega (arith, low)

and-ones : (w x : ℕ) → x < 2 ^ w → bit_and x (2 ^ w - 1) ≡ x
and-ones w x f = and_mask x w ∙ mod-eq_of_lt f

or-zero : (x : ℕ) → bit_or x 0 ≡ x
or-zero x = or_disjoint x 0 (and-zero x) ∙ (let flat : x + 0 ≡ x = omega arith in flat)

or-ones : (w x : ℕ) → x < 2 ^ w → bit_or x (2 ^ w - 1) ≡ 2 ^ w - 1
or-ones w x f =
    let some = pow_pos w in
    let low : 2 ^ w - 1 ≤ bit_or x (2 ^ w - 1) = le_or_r x (2 ^ w - 1) in
    let high : bit_or x (2 ^ w - 1) < 2 ^ w = or_lt w x (2 ^ w - 1) f (omega (arith, some)) in
    omega (arith, low, high, some)

last : (w : ℕ) → 2 ^ w - 1 < 2 ^ w
last w = let some = pow_pos w in omega (arith, some)

above : (w : ℕ) → 2 ^ w - 1 - 0 ≡ 2 ^ w - 1
above w = omega arith

level : (w : ℕ) → 2 ^ w - 1 - (2 ^ w - 1) ≡ 0
level w = omega arith

turned-eq : (k m : ℕ) → (k == m) ≡ (m == k)
turned-eq k m = elim (cases_eq k m) [
  | inl same ↦ eq-eqb k m same ∙ sym (eq-eqb m k (sym same))
  | inr other ↦ ne_eqb k m other ∙ sym (ne_eqb m k (λ e. other (sym e)))
]

lt-none : (x : ℕ) → nat_lt x 0 ≡ false
lt-none x = le-ltb x 0 (let h : 0 ≤ x = omega arith in h)

lt-one : (x : ℕ) → nat_lt x 1 ≡ (x == 0)
lt-one zero = refl
lt-one (suc x) = le-ltb (suc x) 1 (let h : 1 ≤ suc x = omega arith in h) ∙ sym (ne_eqb (suc x) 0 (λ e. omega (arith, e)))

le-none : (x : ℕ) → nat_le x 0 ≡ (x == 0)
le-none x = grind (arith, nat_tests)

at-most : (x m : ℕ) → x ≤ m → nat_le x m ≡ true
at-most x m h = grind (arith, nat_tests)

not-above : (x m : ℕ) → x ≤ m → nat_lt m x ≡ false
not-above x m h = le-ltb m x h

at-least : (x m : ℕ) → x ≤ m → nat_le m x ≡ (x == m)
at-least x m h = grind (arith, nat_tests)

below-top : (w x : ℕ) → x < 2 ^ w → x ≤ 2 ^ w - 1
below-top w x f = omega (arith, f)

div-one : (x : ℕ) → x / 1 ≡ x
div-one x = omega arith

none-left : (x : ℕ) → x % 1 ≡ 0
none-left x = omega arith

no-shift : (w : ℕ) → 1 ≤ w → nat_le w 0 ≡ false
no-shift w h = grind (arith, nat_tests)

one-low : (w : ℕ) → 1 ≤ w → 1 < 2 ^ w
one-low w h = let twice = halves w h in let some = pow_pos (w - 1) in omega (arith, twice, some)

whole-more : (w x : ℕ) → x < 2 ^ w → (x + 2 ^ w - 0) % 2 ^ w ≡ x
whole-more w x f = mod-eq-sub-mod (let h : 2 ^ w ≤ x + 2 ^ w - 0 = omega arith in h) ∙ ap (λ n. n % 2 ^ w) (let back : x + 2 ^ w - 0 - 2 ^ w ≡ x = omega arith in back) ∙ mod-eq_of_lt f

left-by-none : (w x : ℕ) → 1 ≤ w → x < 2 ^ w → shifted_left w x 0 ≡ x
left-by-none w x h f = ap (λ b. cond b 0 (x * 1 % 2 ^ w)) (no-shift w h) ∙ ap (λ n. n % 2 ^ w) (let flat : x * 1 ≡ x = omega arith in flat) ∙ mod-eq_of_lt f

right-by-none : (w x : ℕ) → 1 ≤ w → shifted_right w x 0 ≡ x
right-by-none w x h = ap (λ b. cond b 0 (x / 1)) (no-shift w h) ∙ div-one x

signed-by-none : (w x : ℕ) → 1 ≤ w → x < 2 ^ w → shifted_signed w x 0 ≡ x
signed-by-none w x h f = ap (λ b. cond b (cond (is_negative w x) (2 ^ w - 1) 0) (residue (floor_div (signed w x) 1) (2 ^ w))) (no-shift w h) ∙ go (is_negative w x)
  where
    go : (b : Truth_value) → residue (floor_div (cond b (negsuc (2 ^ w - 1 - x)) (pos x)) 1) (2 ^ w) ≡ x
    go true =
        let low : 2 ^ w - 1 - x < 2 ^ w = omega (arith, f) in
        ap (λ n. 2 ^ w - 1 - n % 2 ^ w) (div-one (2 ^ w - 1 - x)) ∙ ap (λ n. 2 ^ w - 1 - n) (mod-eq_of_lt low) ∙ complement_twice (2 ^ w) x f
    go false = ap (λ n. n % 2 ^ w) (div-one x) ∙ mod-eq_of_lt f

left-of-none : (w n : ℕ) → shifted_left w 0 n ≡ 0
left-of-none w n = go (nat_le w n)
  where
    go : (b : Truth_value) → cond b 0 (0 * 2 ^ n % 2 ^ w) ≡ 0
    go true = refl
    go false = ap (λ m. m % 2 ^ w) (let flat : 0 * 2 ^ n ≡ 0 = omega arith in flat) ∙ zero-mod (2 ^ w)

right-of-none : (w n : ℕ) → shifted_right w 0 n ≡ 0
right-of-none w n = go (nat_le w n)
  where
    go : (b : Truth_value) → cond b 0 (0 / 2 ^ n) ≡ 0
    go true = refl
    go false = zero-div (2 ^ n)

rest-of-none : (n : ℕ) → remainder 0 n ≡ 0
rest-of-none n = go (n == 0)
  where
    go : (b : Truth_value) → cond b 0 (0 % n) ≡ 0
    go true = refl
    go false = zero-mod n

rest-of-itself : (n : ℕ) → remainder n n ≡ 0
rest-of-itself n = go (n == 0) refl
  where
    go : (b : Truth_value) → (n == 0) ≡ b → cond b n (n % n) ≡ 0
    go true is = eqb-true n 0 is
    go false is = mod_self n

-- a quotient and a remainder by a power of two
power-some : (k : ℕ) → (2 ^ k == 0) ≡ false
power-some k = let some = pow_pos k in ne_eqb (2 ^ k) 0 (λ e. omega (arith, e, some))

quotient-shifted : (w n k x : ℕ) → k < w → n ≡ 2 ^ k → cond (n == 0) (2 ^ w - 1) (x / n) ≡ shifted_right w x k
quotient-shifted w n k x low e =
    ap (λ y. cond (y == 0) (2 ^ w - 1) (x / y)) e ∙ ap (λ b. cond b (2 ^ w - 1) (x / 2 ^ k)) (power-some k)
    ∙ sym (ap (λ b. cond b 0 (x / 2 ^ k)) (lt-leb w k low))

rest-masked : (n k x : ℕ) → n ≡ 2 ^ k → remainder x n ≡ bit_and x (2 ^ k - 1)
rest-masked n k x e = ap (remainder x) e ∙ ap (λ b. cond b x (x % 2 ^ k)) (power-some k) ∙ sym (and_mask x k)

exponent-low : (w k : ℕ) → k < w → k < 2 ^ w
exponent-low w k low = let small = below_pow w in omega (arith, low, small)

mask-low : (w k : ℕ) → k < w → 2 ^ k - 1 < 2 ^ w
mask-low w k low = let small : 2 ^ k < 2 ^ w = pow_below k w low in omega (arith, small)

-- a shift by the width or more leaves the sign alone, as one by all bits but one does
sign-only : (w x : ℕ) → 1 ≤ w → x < 2 ^ w → cond (is_negative w x) (2 ^ w - 1) 0 ≡ residue (floor_div (signed w x) (2 ^ (w - 1))) (2 ^ w)
sign-only w x l f = go (is_negative w x) refl
  where
    go : (b : Truth_value) → is_negative w x ≡ b → cond b (2 ^ w - 1) 0 ≡ residue (floor_div (cond b (negsuc (2 ^ w - 1 - x)) (pos x)) (2 ^ (w - 1))) (2 ^ w)
    go true is =
        let twice = halves w l in
        let high : 2 ^ (w - 1) ≤ x = leb-true (2 ^ (w - 1)) x is in
        let low : 2 ^ w - 1 - x < 2 ^ (w - 1) = omega (arith, twice, high, f) in
        sym (ap (λ m. 2 ^ w - 1 - m % 2 ^ w) (div-eq_of_lt low) ∙ ap (λ m. 2 ^ w - 1 - m) (zero-mod (2 ^ w)) ∙ above w)
    go false is =
        let low : x < 2 ^ (w - 1) = leb-false (2 ^ (w - 1)) x is in
        sym (ap (λ m. m % 2 ^ w) (div-eq_of_lt low) ∙ zero-mod (2 ^ w))

signed-past : (w x n : ℕ) → 1 ≤ w → x < 2 ^ w → nat_le w n ≡ true → shifted_signed w x n ≡ shifted_signed w x (w - 1)
signed-past w x n l f past =
    ap (λ b. cond b (cond (is_negative w x) (2 ^ w - 1) 0) (residue (floor_div (signed w x) (2 ^ n)) (2 ^ w))) past
    ∙ sign-only w x l f
    ∙ sym (ap (λ b. cond b (cond (is_negative w x) (2 ^ w - 1) 0) (residue (floor_div (signed w x) (2 ^ (w - 1))) (2 ^ w))) (lt-leb w (w - 1) (let less : w - 1 < w = omega (arith, l) in less)))

-- signed numbers, and their least and greatest
by-sign : (P : ℤ → Type 0) (w x : ℕ) → (x < 2 ^ (w - 1) → P (pos x)) → (2 ^ (w - 1) ≤ x → P (negsuc (2 ^ w - 1 - x))) → P (signed w x)
by-sign P w x h k = elim (cases_lt x (2 ^ (w - 1))) [
  | inl low ↦ subst P (sym (signed-other w x (lt-leb (2 ^ (w - 1)) x low))) (h low)
  | inr high ↦ subst P (sym (signed-negative w x (le-leb (2 ^ (w - 1)) x high))) (k high)
]

signed-least : (w : ℕ) → 1 ≤ w → signed w (2 ^ (w - 1)) ≡ negsuc (2 ^ (w - 1) - 1)
signed-least w l =
    let twice = halves w l in
    signed-negative w (2 ^ (w - 1)) (at-most (2 ^ (w - 1)) (2 ^ (w - 1)) (let h : 2 ^ (w - 1) ≤ 2 ^ (w - 1) = omega arith in h))
    ∙ ap negsuc (let flat : 2 ^ w - 1 - 2 ^ (w - 1) ≡ 2 ^ (w - 1) - 1 = omega (arith, twice) in flat)

signed-greatest : (w : ℕ) → signed w (2 ^ (w - 1) - 1) ≡ pos (2 ^ (w - 1) - 1)
signed-greatest w = signed-other w (2 ^ (w - 1) - 1) (lt-leb (2 ^ (w - 1)) (2 ^ (w - 1) - 1) (last (w - 1)))

none-below : (w x : ℕ) → 1 ≤ w → x < 2 ^ w → int_lt (signed w x) (signed w (2 ^ (w - 1))) ≡ false
none-below w x l f =
    let twice = halves w l in
    ap (int_lt (signed w x)) (signed-least w l)
    ∙ by-sign (λ z. int_lt z (negsuc (2 ^ (w - 1) - 1)) ≡ false) w x (λ low. refl)
    (λ high. not-above (2 ^ w - 1 - x) (2 ^ (w - 1) - 1) (omega (arith, twice, high)))

least-below : (w x : ℕ) → 1 ≤ w → x < 2 ^ w → int_le (signed w (2 ^ (w - 1))) (signed w x) ≡ true
least-below w x l f =
    let twice = halves w l in
    ap (λ z. int_le z (signed w x)) (signed-least w l)
    ∙ by-sign (λ z. int_le (negsuc (2 ^ (w - 1) - 1)) z ≡ true) w x (λ low. refl)
    (λ high. at-most (2 ^ w - 1 - x) (2 ^ (w - 1) - 1) (omega (arith, twice, high)))

only-least : (w x : ℕ) → 1 ≤ w → x < 2 ^ w → int_le (signed w x) (signed w (2 ^ (w - 1))) ≡ (x == 2 ^ (w - 1))
only-least w x l f =
    let twice = halves w l in
    let some = pow_pos (w - 1) in
    ap (int_le (signed w x)) (signed-least w l)
    ∙ by-sign (λ z. int_le z (negsuc (2 ^ (w - 1) - 1)) ≡ (x == 2 ^ (w - 1))) w x
    (λ low. sym (ne_eqb x (2 ^ (w - 1)) (λ e. omega (arith, e, low))))
    (λ high. same-test (2 ^ (w - 1) - 1) (2 ^ w - 1 - x) x (2 ^ (w - 1)) (λ e. omega (arith, e, twice)) (λ h. omega (arith, h, twice, high, f, some)))
  where
    same-test : (a b c d : ℕ) → (c ≡ d → a ≤ b) → (a ≤ b → c ≡ d) → nat_le a b ≡ (c == d)
    same-test a b c d g h = elim (cases_lt b a) [
      | inl less ↦ lt-leb a b less ∙ sym (ne_eqb c d (λ e. let k = g e in omega (arith, k, less)))
      | inr most ↦ le-leb a b most ∙ sym (eq-eqb c d (h most))
    ]

none-above : (w x : ℕ) → 1 ≤ w → x < 2 ^ w → int_lt (signed w (2 ^ (w - 1) - 1)) (signed w x) ≡ false
none-above w x l f =
    ap (λ z. int_lt z (signed w x)) (signed-greatest w)
    ∙ by-sign (λ z. int_lt (pos (2 ^ (w - 1) - 1)) z ≡ false) w x
    (λ low. not-above x (2 ^ (w - 1) - 1) (below-top (w - 1) x low)) (λ high. refl)

greatest-above : (w x : ℕ) → 1 ≤ w → x < 2 ^ w → int_le (signed w x) (signed w (2 ^ (w - 1) - 1)) ≡ true
greatest-above w x l f =
    ap (int_le (signed w x)) (signed-greatest w)
    ∙ by-sign (λ z. int_le z (pos (2 ^ (w - 1) - 1)) ≡ true) w x
    (λ low. at-most x (2 ^ (w - 1) - 1) (below-top (w - 1) x low)) (λ high. refl)

only-greatest : (w x : ℕ) → 1 ≤ w → x < 2 ^ w → int_le (signed w (2 ^ (w - 1) - 1)) (signed w x) ≡ (x == 2 ^ (w - 1) - 1)
only-greatest w x l f =
    let some = pow_pos (w - 1) in
    ap (λ z. int_le z (signed w x)) (signed-greatest w)
    ∙ by-sign (λ z. int_le (pos (2 ^ (w - 1) - 1)) z ≡ (x == 2 ^ (w - 1) - 1)) w x
    (λ low. at-least x (2 ^ (w - 1) - 1) (below-top (w - 1) x low))
    (λ high. sym (ne_eqb x (2 ^ (w - 1) - 1) (λ e. omega (arith, e, high, some))))

-- ---- the tables

-- an operator's application to x and n, and to n and x
abbrev Behind : Op → (s t : Sort) → ℕ → ℕ → ℕ
Behind o s t n x = op_value o (s ∷ t ∷ []) (x ∷ n ∷ [])

abbrev Before : Op → (s t : Sort) → ℕ → ℕ → ℕ
Before o s t n x = op_value o (t ∷ s ∷ []) (n ∷ x ∷ [])

-- a table of an operator's second argument is right
abbrev Seconds : Op → (Op → Sort → ℕ → Option Outcome) → Sort → Sort → Sort → Type 0
Seconds o table s t q = IsLawful s → (n : ℕ) → IsValueOf n t → (r : Outcome) → table o s n ≡ Some r → Fits s q (Behind o s t n) r

-- and of its first one
abbrev Firsts : Op → (Op → Sort → ℕ → Option Outcome) → Sort → Sort → Sort → Type 0
Firsts o table t s q = IsLawful s → (n : ℕ) → IsValueOf n t → (r : Outcome) → table o s n ≡ Some r → Fits s q (Before o s t n) r

either-and : (w n : ℕ) → (r : Outcome) → by_either BvAnd (Bits w) n ≡ Some r → Fits (Bits w) (Bits w) (λ x. bit_and x n) r
either-and w n = either-end (Fits (Bits w) (Bits w) (λ x. bit_and x n)) (2 ^ w - 1) n (Number 0) Argument
    (λ e. (refl, pow_pos w, λ x f. ap (bit_and x) e ∙ and-zero x))
    (λ e. (refl, λ x f. ap (bit_and x) e ∙ and-ones w x f))

either-or : (w n : ℕ) → (r : Outcome) → by_either BvOr (Bits w) n ≡ Some r → Fits (Bits w) (Bits w) (λ x. bit_or x n) r
either-or w n = either-end (Fits (Bits w) (Bits w) (λ x. bit_or x n)) (2 ^ w - 1) n Argument (Number (2 ^ w - 1))
    (λ e. (refl, λ x f. ap (bit_or x) e ∙ or-zero x))
    (λ e. (refl, last w, λ x f. ap (bit_or x) e ∙ or-ones w x f))

either-xor : (w n : ℕ) → (r : Outcome) → by_either BvXor (Bits w) n ≡ Some r → Fits (Bits w) (Bits w) (λ x. bit_xor x n) r
either-xor w n = either-end (Fits (Bits w) (Bits w) (λ x. bit_xor x n)) (2 ^ w - 1) n Argument Complement
    (λ e. (refl, λ x f. ap (bit_xor x) e ∙ xor_zero_r x))
    (λ e. (refl, λ x f. ap (bit_xor x) e ∙ sym (turned-all w x f)))

either-nand : (w n : ℕ) → (r : Outcome) → by_either BvNand (Bits w) n ≡ Some r → Fits (Bits w) (Bits w) (λ x. 2 ^ w - 1 - bit_and x n) r
either-nand w n = either-end (Fits (Bits w) (Bits w) (λ x. 2 ^ w - 1 - bit_and x n)) (2 ^ w - 1) n (Number (2 ^ w - 1)) Complement
    (λ e. (refl, last w, λ x f. ap (λ y. 2 ^ w - 1 - y) (ap (bit_and x) e ∙ and-zero x) ∙ above w))
    (λ e. (refl, λ x f. ap (λ y. 2 ^ w - 1 - y) (ap (bit_and x) e ∙ and-ones w x f)))

either-nor : (w n : ℕ) → (r : Outcome) → by_either BvNor (Bits w) n ≡ Some r → Fits (Bits w) (Bits w) (λ x. 2 ^ w - 1 - bit_or x n) r
either-nor w n = either-end (Fits (Bits w) (Bits w) (λ x. 2 ^ w - 1 - bit_or x n)) (2 ^ w - 1) n Complement (Number 0)
    (λ e. (refl, λ x f. ap (λ y. 2 ^ w - 1 - y) (ap (bit_or x) e ∙ or-zero x)))
    (λ e. (refl, pow_pos w, λ x f. ap (λ y. 2 ^ w - 1 - y) (ap (bit_or x) e ∙ or-ones w x f) ∙ level w))

either-xnor : (w n : ℕ) → (r : Outcome) → by_either BvXnor (Bits w) n ≡ Some r → Fits (Bits w) (Bits w) (λ x. 2 ^ w - 1 - bit_xor x n) r
either-xnor w n = either-end (Fits (Bits w) (Bits w) (λ x. 2 ^ w - 1 - bit_xor x n)) (2 ^ w - 1) n Complement Argument
    (λ e. (refl, λ x f. ap (λ y. 2 ^ w - 1 - y) (ap (bit_xor x) e ∙ xor_zero_r x)))
    (λ e. (refl, λ x f. ap (λ y. 2 ^ w - 1 - y) (ap (bit_xor x) e ∙ sym (turned-all w x f)) ∙ complement_twice (2 ^ w) x f))

either-truths : (n : ℕ) → (r : Outcome) → by_either Xor Bool n ≡ Some r → Fits Bool Bool (λ x. truth (not (x == n))) r
either-truths n = either-end (Fits Bool Bool (λ x. truth (not (x == n)))) 1 n Argument Complement
    (λ e. (refl, λ x f. ap (λ y. truth (not (x == y))) e ∙ below-two (λ a. truth (not (a == 0)) ≡ a) x f refl refl))
    (λ e. (refl, λ x f. ap (λ y. truth (not (x == y))) e ∙ below-two (λ a. truth (not (a == 1)) ≡ 1 - a) x f refl refl))

either-equal : (s : Sort) (n : ℕ) → (r : Outcome) → by_either Equal s n ≡ Some r → Fits s Bool (λ x. truth (x == n)) r
either-equal Bool n = either-end (Fits Bool Bool (λ x. truth (x == n))) 1 n Complement Argument
    (λ e. (refl, λ x f. ap (λ y. truth (x == y)) e ∙ below-two (λ a. truth (a == 0) ≡ 1 - a) x f refl refl))
    (λ e. (refl, λ x f. ap (λ y. truth (x == y)) e ∙ below-two (λ a. truth (a == 1) ≡ a) x f refl refl))
either-equal (Bits w) n = λ r e. cc

either-both : (n : ℕ) → (r : Outcome) → by_either And Bool n ≡ Some r → Fits Bool Bool (λ x. truth (x == 1 && n == 1)) r
either-both n = either-end (Fits Bool Bool (λ x. truth (x == 1 && n == 1))) 1 n (Number 0) Argument
    (λ e. (refl, lit< tt, λ x f. ap (λ y. truth (x == 1 && y == 1)) e ∙ below-two (λ a. truth (a == 1 && false) ≡ 0) x f refl refl))
    (λ e. (refl, λ x f. ap (λ y. truth (x == 1 && y == 1)) e ∙ below-two (λ a. truth (a == 1 && true) ≡ a) x f refl refl))

either-some : (n : ℕ) → (r : Outcome) → by_either Or Bool n ≡ Some r → Fits Bool Bool (λ x. truth (x == 1 || n == 1)) r
either-some n = either-end (Fits Bool Bool (λ x. truth (x == 1 || n == 1))) 1 n Argument (Number 1)
    (λ e. (refl, λ x f. ap (λ y. truth (x == 1 || y == 1)) e ∙ below-two (λ a. truth (a == 1 || false) ≡ a) x f refl refl))
    (λ e. (refl, lit< tt, λ x f. ap (λ y. truth (x == 1 || y == 1)) e ∙ below-two (λ a. truth (a == 1 || true) ≡ 1) x f refl refl))

either-sum : (w n : ℕ) → (r : Outcome) → by_either BvAdd (Bits w) n ≡ Some r → Fits (Bits w) (Bits w) (λ x. (x + n) % 2 ^ w) r
either-sum w n = where-is (Fits (Bits w) (Bits w) (λ x. (x + n) % 2 ^ w)) 0 n Argument
    (λ e. (refl, λ x f. ap (λ y. y % 2 ^ w) (let flat : x + n ≡ x = omega (arith, e) in flat) ∙ mod-eq_of_lt f))

either-product : (w n : ℕ) → (r : Outcome) → by_either BvMul (Bits w) n ≡ Some r → Fits (Bits w) (Bits w) (λ x. x * n % 2 ^ w) r
either-product w n = either-end (Fits (Bits w) (Bits w) (λ x. x * n % 2 ^ w)) 1 n (Number 0) Argument
    (λ e. (refl, pow_pos w, λ x f. ap (λ y. x * y % 2 ^ w) e ∙ ap (λ y. y % 2 ^ w) (let none : x * 0 ≡ 0 = omega arith in none) ∙ zero-mod (2 ^ w)))
    (λ e. (refl, λ x f. ap (λ y. x * y % 2 ^ w) e ∙ ap (λ y. y % 2 ^ w) (let flat : x * 1 ≡ x = omega arith in flat) ∙ mod-eq_of_lt f))

either-second : (o : Op) (s t q : Sort) → result_sort o (s ∷ t ∷ []) ≡ Some q → Seconds o by_either s t q
either-second And s t q h = on-bools (Seconds And by_either) (λ l n i. either-both n) s t q h
either-second Or s t q h = on-bools (Seconds Or by_either) (λ l n i. either-some n) s t q h
either-second Xor s t q h = on-bools (Seconds Xor by_either) (λ l n i. either-truths n) s t q h
either-second Equal s t q h = on-alike (Seconds Equal by_either) (λ s l n i. either-equal s n) s t q h
either-second BvAnd s t q h = on-wide (Seconds BvAnd by_either) (λ w l n i. either-and w n) s t q h
either-second BvOr s t q h = on-wide (Seconds BvOr by_either) (λ w l n i. either-or w n) s t q h
either-second BvXor s t q h = on-wide (Seconds BvXor by_either) (λ w l n i. either-xor w n) s t q h
either-second BvNand s t q h = on-wide (Seconds BvNand by_either) (λ w l n i. either-nand w n) s t q h
either-second BvNor s t q h = on-wide (Seconds BvNor by_either) (λ w l n i. either-nor w n) s t q h
either-second BvXnor s t q h = on-wide (Seconds BvXnor by_either) (λ w l n i. either-xnor w n) s t q h
either-second BvAdd s t q h = on-wide (Seconds BvAdd by_either) (λ w l n i. either-sum w n) s t q h
either-second BvMul s t q h = on-wide (Seconds BvMul by_either) (λ w l n i. either-product w n) s t q h
either-second _ s t q h = λ l n i r e. cc

-- the arguments in the other order
both-turned : (x y : Truth_value) → (x && y) ≡ (y && x)
both-turned true true = refl
both-turned true false = refl
both-turned false true = refl
both-turned false false = refl

some-turned : (x y : Truth_value) → (x || y) ≡ (y || x)
some-turned true true = refl
some-turned true false = refl
some-turned false true = refl
some-turned false false = refl

turned-fits : (s q : Sort) (f g : ℕ → ℕ) → ((x : ℕ) → g x ≡ f x) → (r : Outcome) → Fits s q f r → Fits s q g r
turned-fits s q f g h r k = fits-like s q f g r (λ x i. h x) k

either-first : (o : Op) (t s q : Sort) → result_sort o (t ∷ s ∷ []) ≡ Some q → Firsts o by_either t s q
either-first And t s q h = on-bools (Firsts And by_either) (λ l n i r e. turned-fits Bool Bool (λ x. truth (x == 1 && n == 1)) (λ x. truth (n == 1 && x == 1)) (λ x. ap truth (both-turned (n == 1) (x == 1))) r (either-both n r e)) t s q h
either-first Or t s q h = on-bools (Firsts Or by_either) (λ l n i r e. turned-fits Bool Bool (λ x. truth (x == 1 || n == 1)) (λ x. truth (n == 1 || x == 1)) (λ x. ap truth (some-turned (n == 1) (x == 1))) r (either-some n r e)) t s q h
either-first Xor t s q h = on-bools (Firsts Xor by_either) (λ l n i r e. turned-fits Bool Bool (λ x. truth (not (x == n))) (λ x. truth (not (n == x))) (λ x. ap (λ b. truth (not b)) (turned-eq n x)) r (either-truths n r e)) t s q h
either-first Equal t s q h = on-alike (Firsts Equal by_either) (λ s l n i r e. turned-fits s Bool (λ x. truth (x == n)) (λ x. truth (n == x)) (λ x. ap truth (turned-eq n x)) r (either-equal s n r e)) t s q h
either-first BvAnd t s q h = on-wide (Firsts BvAnd by_either) (λ w l n i r e. turned-fits (Bits w) (Bits w) (λ x. bit_and x n) (λ x. bit_and n x) (λ x. and_comm n x) r (either-and w n r e)) t s q h
either-first BvOr t s q h = on-wide (Firsts BvOr by_either) (λ w l n i r e. turned-fits (Bits w) (Bits w) (λ x. bit_or x n) (λ x. bit_or n x) (λ x. or_comm n x) r (either-or w n r e)) t s q h
either-first BvXor t s q h = on-wide (Firsts BvXor by_either) (λ w l n i r e. turned-fits (Bits w) (Bits w) (λ x. bit_xor x n) (λ x. bit_xor n x) (λ x. xor_comm n x) r (either-xor w n r e)) t s q h
either-first BvNand t s q h = on-wide (Firsts BvNand by_either) (λ w l n i r e. turned-fits (Bits w) (Bits w) (λ x. 2 ^ w - 1 - bit_and x n) (λ x. 2 ^ w - 1 - bit_and n x) (λ x. ap (λ y. 2 ^ w - 1 - y) (and_comm n x)) r (either-nand w n r e)) t s q h
either-first BvNor t s q h = on-wide (Firsts BvNor by_either) (λ w l n i r e. turned-fits (Bits w) (Bits w) (λ x. 2 ^ w - 1 - bit_or x n) (λ x. 2 ^ w - 1 - bit_or n x) (λ x. ap (λ y. 2 ^ w - 1 - y) (or_comm n x)) r (either-nor w n r e)) t s q h
either-first BvXnor t s q h = on-wide (Firsts BvXnor by_either) (λ w l n i r e. turned-fits (Bits w) (Bits w) (λ x. 2 ^ w - 1 - bit_xor x n) (λ x. 2 ^ w - 1 - bit_xor n x) (λ x. ap (λ y. 2 ^ w - 1 - y) (xor_comm n x)) r (either-xnor w n r e)) t s q h
either-first BvAdd t s q h = on-wide (Firsts BvAdd by_either) (λ w l n i r e. turned-fits (Bits w) (Bits w) (λ x. (x + n) % 2 ^ w) (λ x. (n + x) % 2 ^ w) (λ x. ap (λ y. y % 2 ^ w) (let turned : n + x ≡ x + n = omega arith in turned)) r (either-sum w n r e)) t s q h
either-first BvMul t s q h = on-wide (Firsts BvMul by_either) (λ w l n i r e. turned-fits (Bits w) (Bits w) (λ x. x * n % 2 ^ w) (λ x. n * x % 2 ^ w) (λ x. ap (λ y. y % 2 ^ w) (let turned : n * x ≡ x * n = omega arith in turned)) r (either-product w n r e)) t s q h
either-first _ t s q h = λ l n i r e. cc

-- comparisons of words, and equations
same-width : (w : ℕ) → result_sort Equal (Bits w ∷ Bits w ∷ []) ≡ Some Bool
same-width w = rw (let same : (w == w) ≡ true = eq-eqb w w refl in same) refl

under-equal : (w m : ℕ) (f : ℕ → ℕ) → m < 2 ^ w → ((x : ℕ) → x < 2 ^ w → f x ≡ truth (x == m)) → Fits (Bits w) Bool f (Under Equal m)
under-equal w m f low h = (same-width w, low, h)

under-least : (w : ℕ) (f : ℕ → ℕ) → ((x : ℕ) → f x ≡ truth (x == 0)) → Fits (Bits w) Bool f (Under Equal 0)
under-least w f h = under-equal w 0 f (pow_pos w) (λ x i. h x)

under-most : (w : ℕ) (f : ℕ → ℕ) → ((x : ℕ) → x < 2 ^ w → f x ≡ truth (x == 2 ^ w - 1)) → Fits (Bits w) Bool f (Under Equal (2 ^ w - 1))
under-most w f h = under-equal w (2 ^ w - 1) f (last w) h

-- two words of one width
same-word : (w : ℕ) → option_map Bits (two_widths (Bits w ∷ Bits w ∷ [])) ≡ Some (Bits w)
same-word w = rw (let same : (w == w) ≡ true = eq-eqb w w refl in same) refl

half-low : (w : ℕ) → 1 ≤ w → 2 ^ (w - 1) < 2 ^ w
half-low w l = let twice = halves w l in let some = pow_pos (w - 1) in omega (arith, twice, some)

less-low : (w : ℕ) → 1 ≤ w → 2 ^ (w - 1) - 1 < 2 ^ w
less-low w l = let half = half-low w l in omega (arith, half)

-- signed comparisons with the least and the greatest, on either side
under-signed : (w m : ℕ) (f : ℕ → ℕ → Truth_value) (n : ℕ) → m < 2 ^ w → n ≡ m → ((x : ℕ) → x < 2 ^ w → f x m ≡ (x == m)) → Fits (Bits w) Bool (λ x. truth (f x n)) (Under Equal m)
under-signed w m f n low e h = under-equal w m (λ x. truth (f x n)) low (λ x i. ap (λ y. truth (f x y)) e ∙ ap truth (h x i))

truth-signed : (w m : ℕ) (f : ℕ → ℕ → Truth_value) (b : Truth_value) (n : ℕ) → n ≡ m → ((x : ℕ) → x < 2 ^ w → f x m ≡ b) → Fits (Bits w) Bool (λ x. truth (f x n)) (Truth b)
truth-signed w m f b n e h = (refl, λ x i. ap (λ y. truth (f x y)) e ∙ ap truth (h x i))

pub second-fits : (o : Op) (s t q : Sort) → result_sort o (s ∷ t ∷ []) ≡ Some q → Seconds o by_second s t q
second-fits Implies s t q h = on-bools (Seconds Implies by_second) (λ l n i. either-end (Fits Bool Bool (λ x. truth (x == 0 || n == 1))) 1 n Complement (Number 1)
    (λ e. (refl, λ x f. ap (λ y. truth (x == 0 || y == 1)) e ∙ below-two (λ a. truth (a == 0 || false) ≡ 1 - a) x f refl refl))
    (λ e. (refl, lit< tt, λ x f. ap (λ y. truth (x == 0 || y == 1)) e ∙ below-two (λ a. truth (a == 0 || true) ≡ 1) x f refl refl))) s t q h
second-fits BvSub s t q h = on-wide (Seconds BvSub by_second) (λ w l n i. where-is (Fits (Bits w) (Bits w) (λ x. (x + 2 ^ w - n) % 2 ^ w)) 0 n Argument
    (λ e. (refl, λ x f. ap (λ y. (x + 2 ^ w - y) % 2 ^ w) e ∙ whole-more w x f))) s t q h
second-fits BvUdiv s t q h = on-wide (Seconds BvUdiv by_second) (λ w l n i. at-powers (Fits (Bits w) (Bits w) (λ x. cond (n == 0) (2 ^ w - 1) (x / n))) (Bits w) n (Number (2 ^ w - 1)) Argument (Under BvLshr)
    (λ e. (refl, last w, λ x f. ap (λ y. cond (y == 0) (2 ^ w - 1) (x / y)) e))
    (λ e. (refl, λ x f. ap (λ y. cond (y == 0) (2 ^ w - 1) (x / y)) e ∙ div-one x))
    (λ k low e. (same-word w, exponent-low w k low, λ x f. quotient-shifted w n k x low e))) s t q h
second-fits BvUrem s t q h = on-wide (Seconds BvUrem by_second) (λ w l n i. at-powers (Fits (Bits w) (Bits w) (λ x. remainder x n)) (Bits w) n Argument (Number 0) (λ k. Under BvAnd (2 ^ k - 1))
    (λ e. (refl, λ x f. ap (remainder x) e))
    (λ e. (refl, pow_pos w, λ x f. ap (remainder x) e ∙ none-left x))
    (λ k low e. (same-word w, mask-low w k low, λ x f. rest-masked n k x e))) s t q h
second-fits BvShl s t q h = on-wide (Seconds BvShl by_second) (λ w l n i. or-past (Fits (Bits w) (Bits w) (λ x. shifted_left w x n)) w n Argument (Number 0)
    (λ e. (refl, λ x f. ap (shifted_left w x) e ∙ left-by-none w x l.0 f))
    (λ e. (refl, pow_pos w, λ x f. ap (λ b. cond b 0 (x * 2 ^ n % 2 ^ w)) e))) s t q h
second-fits BvLshr s t q h = on-wide (Seconds BvLshr by_second) (λ w l n i. or-past (Fits (Bits w) (Bits w) (λ x. shifted_right w x n)) w n Argument (Number 0)
    (λ e. (refl, λ x f. ap (shifted_right w x) e ∙ right-by-none w x l.0))
    (λ e. (refl, pow_pos w, λ x f. ap (λ b. cond b 0 (x / 2 ^ n)) e))) s t q h
second-fits BvAshr s t q h = on-wide (Seconds BvAshr by_second) (λ w l n i. or-past (Fits (Bits w) (Bits w) (λ x. shifted_signed w x n)) w n Argument (Under BvAshr (w - 1))
    (λ e. (refl, λ x f. ap (shifted_signed w x) e ∙ signed-by-none w x l.0 f))
    (λ e. (same-word w, exponent-low w (w - 1) (let less : w - 1 < w = omega (arith, l.0) in less), λ x f. signed-past w x n l.0 f e))) s t q h
second-fits BvUlt s t q h = on-compared (Seconds BvUlt by_second) (λ w l n i. either-end (Fits (Bits w) Bool (λ x. truth (nat_lt x n))) 1 n (Truth false) (Under Equal 0)
    (λ e. (refl, λ x f. ap (λ y. truth (nat_lt x y)) e ∙ ap truth (lt-none x)))
    (λ e. under-least w (λ x. truth (nat_lt x n)) (λ x. ap (λ y. truth (nat_lt x y)) e ∙ ap truth (lt-one x)))) s t q h
second-fits BvUle s t q h = on-compared (Seconds BvUle by_second) (λ w l n i. either-end (Fits (Bits w) Bool (λ x. truth (nat_le x n))) (2 ^ w - 1) n (Under Equal 0) (Truth true)
    (λ e. under-least w (λ x. truth (nat_le x n)) (λ x. ap (λ y. truth (nat_le x y)) e ∙ ap truth (le-none x)))
    (λ e. (refl, λ x f. ap (λ y. truth (nat_le x y)) e ∙ ap truth (at-most x (2 ^ w - 1) (below-top w x f))))) s t q h
second-fits BvUgt s t q h = on-compared (Seconds BvUgt by_second) (λ w l n i. where-is (Fits (Bits w) Bool (λ x. truth (nat_lt n x))) (2 ^ w - 1) n (Truth false)
    (λ e. (refl, λ x f. ap (λ y. truth (nat_lt y x)) e ∙ ap truth (not-above x (2 ^ w - 1) (below-top w x f))))) s t q h
second-fits BvUge s t q h = on-compared (Seconds BvUge by_second) (λ w l n i. either-end (Fits (Bits w) Bool (λ x. truth (nat_le n x))) (2 ^ w - 1) n (Truth true) (Under Equal (2 ^ w - 1))
    (λ e. (refl, λ x f. ap (λ y. truth (nat_le y x)) e ∙ ap truth (at-most 0 x (let low : 0 ≤ x = omega arith in low))))
    (λ e. under-most w (λ x. truth (nat_le n x)) (λ x f. ap (λ y. truth (nat_le y x)) e ∙ ap truth (at-least x (2 ^ w - 1) (below-top w x f))))) s t q h
second-fits BvSlt s t q h = on-compared (Seconds BvSlt by_second) (λ w l n i. where-is (Fits (Bits w) Bool (λ x. truth (int_lt (signed w x) (signed w n)))) (2 ^ (w - 1)) n (Truth false)
    (λ e. truth-signed w (2 ^ (w - 1)) (λ x y. int_lt (signed w x) (signed w y)) false n e (λ x f. none-below w x l.0 f))) s t q h
second-fits BvSle s t q h = on-compared (Seconds BvSle by_second) (λ w l n i. either-of (Fits (Bits w) Bool (λ x. truth (int_le (signed w x) (signed w n)))) (2 ^ (w - 1)) (2 ^ (w - 1) - 1) n (Under Equal (2 ^ (w - 1))) (Truth true)
    (λ e. under-signed w (2 ^ (w - 1)) (λ x y. int_le (signed w x) (signed w y)) n (half-low w l.0) e (λ x f. only-least w x l.0 f))
    (λ e. truth-signed w (2 ^ (w - 1) - 1) (λ x y. int_le (signed w x) (signed w y)) true n e (λ x f. greatest-above w x l.0 f))) s t q h
second-fits BvSgt s t q h = on-compared (Seconds BvSgt by_second) (λ w l n i. where-is (Fits (Bits w) Bool (λ x. truth (int_lt (signed w n) (signed w x)))) (2 ^ (w - 1) - 1) n (Truth false)
    (λ e. truth-signed w (2 ^ (w - 1) - 1) (λ x y. int_lt (signed w y) (signed w x)) false n e (λ x f. none-above w x l.0 f))) s t q h
second-fits BvSge s t q h = on-compared (Seconds BvSge by_second) (λ w l n i. either-of (Fits (Bits w) Bool (λ x. truth (int_le (signed w n) (signed w x)))) (2 ^ (w - 1)) (2 ^ (w - 1) - 1) n (Truth true) (Under Equal (2 ^ (w - 1) - 1))
    (λ e. truth-signed w (2 ^ (w - 1)) (λ x y. int_le (signed w y) (signed w x)) true n e (λ x f. least-below w x l.0 f))
    (λ e. under-signed w (2 ^ (w - 1) - 1) (λ x y. int_le (signed w y) (signed w x)) n (less-low w l.0) e (λ x f. only-greatest w x l.0 f))) s t q h
second-fits o s t q h = either-second o s t q h

pub first-fits : (o : Op) (t s q : Sort) → result_sort o (t ∷ s ∷ []) ≡ Some q → Firsts o by_first t s q
first-fits Implies t s q h = on-bools (Firsts Implies by_first) (λ l n i. either-end (Fits Bool Bool (λ x. truth (n == 0 || x == 1))) 1 n (Number 1) Argument
    (λ e. (refl, lit< tt, λ x f. ap (λ y. truth (y == 0 || x == 1)) e))
    (λ e. (refl, λ x f. ap (λ y. truth (y == 0 || x == 1)) e ∙ below-two (λ a. truth (a == 1) ≡ a) x f refl refl))) t s q h
first-fits BvUrem t s q h = on-wide (Firsts BvUrem by_first) (λ w l n i. where-is (Fits (Bits w) (Bits w) (λ x. remainder n x)) 0 n (Number 0)
    (λ e. (refl, pow_pos w, λ x f. ap (λ y. remainder y x) e ∙ rest-of-none x))) t s q h
first-fits BvShl t s q h = on-wide (Firsts BvShl by_first) (λ w l n i. where-is (Fits (Bits w) (Bits w) (λ x. shifted_left w n x)) 0 n (Number 0)
    (λ e. (refl, pow_pos w, λ x f. ap (λ y. shifted_left w y x) e ∙ left-of-none w x))) t s q h
first-fits BvLshr t s q h = on-wide (Firsts BvLshr by_first) (λ w l n i. where-is (Fits (Bits w) (Bits w) (λ x. shifted_right w n x)) 0 n (Number 0)
    (λ e. (refl, pow_pos w, λ x f. ap (λ y. shifted_right w y x) e ∙ right-of-none w x))) t s q h
first-fits BvUlt t s q h = on-compared (Firsts BvUlt by_first) (λ w l n i. where-is (Fits (Bits w) Bool (λ x. truth (nat_lt n x))) (2 ^ w - 1) n (Truth false)
    (λ e. (refl, λ x f. ap (λ y. truth (nat_lt y x)) e ∙ ap truth (not-above x (2 ^ w - 1) (below-top w x f))))) t s q h
first-fits BvUle t s q h = on-compared (Firsts BvUle by_first) (λ w l n i. either-end (Fits (Bits w) Bool (λ x. truth (nat_le n x))) (2 ^ w - 1) n (Truth true) (Under Equal (2 ^ w - 1))
    (λ e. (refl, λ x f. ap (λ y. truth (nat_le y x)) e ∙ ap truth (at-most 0 x (let low : 0 ≤ x = omega arith in low))))
    (λ e. under-most w (λ x. truth (nat_le n x)) (λ x f. ap (λ y. truth (nat_le y x)) e ∙ ap truth (at-least x (2 ^ w - 1) (below-top w x f))))) t s q h
first-fits BvUgt t s q h = on-compared (Firsts BvUgt by_first) (λ w l n i. either-end (Fits (Bits w) Bool (λ x. truth (nat_lt x n))) 1 n (Truth false) (Under Equal 0)
    (λ e. (refl, λ x f. ap (λ y. truth (nat_lt x y)) e ∙ ap truth (lt-none x)))
    (λ e. under-least w (λ x. truth (nat_lt x n)) (λ x. ap (λ y. truth (nat_lt x y)) e ∙ ap truth (lt-one x)))) t s q h
first-fits BvUge t s q h = on-compared (Firsts BvUge by_first) (λ w l n i. either-end (Fits (Bits w) Bool (λ x. truth (nat_le x n))) (2 ^ w - 1) n (Under Equal 0) (Truth true)
    (λ e. under-least w (λ x. truth (nat_le x n)) (λ x. ap (λ y. truth (nat_le x y)) e ∙ ap truth (le-none x)))
    (λ e. (refl, λ x f. ap (λ y. truth (nat_le x y)) e ∙ ap truth (at-most x (2 ^ w - 1) (below-top w x f))))) t s q h
first-fits BvSlt t s q h = on-compared (Firsts BvSlt by_first) (λ w l n i. where-is (Fits (Bits w) Bool (λ x. truth (int_lt (signed w n) (signed w x)))) (2 ^ (w - 1) - 1) n (Truth false)
    (λ e. truth-signed w (2 ^ (w - 1) - 1) (λ x y. int_lt (signed w y) (signed w x)) false n e (λ x f. none-above w x l.0 f))) t s q h
first-fits BvSle t s q h = on-compared (Firsts BvSle by_first) (λ w l n i. either-of (Fits (Bits w) Bool (λ x. truth (int_le (signed w n) (signed w x)))) (2 ^ (w - 1)) (2 ^ (w - 1) - 1) n (Truth true) (Under Equal (2 ^ (w - 1) - 1))
    (λ e. truth-signed w (2 ^ (w - 1)) (λ x y. int_le (signed w y) (signed w x)) true n e (λ x f. least-below w x l.0 f))
    (λ e. under-signed w (2 ^ (w - 1) - 1) (λ x y. int_le (signed w y) (signed w x)) n (less-low w l.0) e (λ x f. only-greatest w x l.0 f))) t s q h
first-fits BvSgt t s q h = on-compared (Firsts BvSgt by_first) (λ w l n i. where-is (Fits (Bits w) Bool (λ x. truth (int_lt (signed w x) (signed w n)))) (2 ^ (w - 1)) n (Truth false)
    (λ e. truth-signed w (2 ^ (w - 1)) (λ x y. int_lt (signed w x) (signed w y)) false n e (λ x f. none-below w x l.0 f))) t s q h
first-fits BvSge t s q h = on-compared (Firsts BvSge by_first) (λ w l n i. either-of (Fits (Bits w) Bool (λ x. truth (int_le (signed w x) (signed w n)))) (2 ^ (w - 1)) (2 ^ (w - 1) - 1) n (Under Equal (2 ^ (w - 1))) (Truth true)
    (λ e. under-signed w (2 ^ (w - 1)) (λ x y. int_le (signed w x) (signed w y)) n (half-low w l.0) e (λ x f. only-least w x l.0 f))
    (λ e. truth-signed w (2 ^ (w - 1) - 1) (λ x y. int_le (signed w x) (signed w y)) true n e (λ x f. greatest-above w x l.0 f))) t s q h
first-fits o t s q h = either-first o t s q h

-- ---- an argument and itself

abbrev Twins : Op → Sort → Sort → Sort → Type 0
Twins o s t q = (r : Outcome) → of_twins o s ≡ Some r → Fits s q (λ x. op_value o (s ∷ t ∷ []) (x ∷ x ∷ [])) r

less-itself : (x : ℕ) → nat_lt x x ≡ false
less-itself x = le-ltb x x (let h : x ≤ x = omega arith in h)

least-itself : (x : ℕ) → nat_le x x ≡ true
least-itself x = grind (arith, nat_tests)

int-less-itself : (z : ℤ) → int_lt z z ≡ false
int-less-itself (pos n) = less-itself n
int-less-itself (negsuc n) = less-itself n

int-least-itself : (z : ℤ) → int_le z z ≡ true
int-least-itself (pos n) = least-itself n
int-least-itself (negsuc n) = least-itself n

pub twins-fit : (o : Op) (s t q : Sort) → result_sort o (s ∷ t ∷ []) ≡ Some q → Twins o s t q
twins-fit And s t q h = on-bools (Twins And) (one (Fits Bool Bool (λ x. truth (x == 1 && x == 1))) Argument (refl, λ x f. below-two (λ a. truth (a == 1 && a == 1) ≡ a) x f refl refl)) s t q h
twins-fit Or s t q h = on-bools (Twins Or) (one (Fits Bool Bool (λ x. truth (x == 1 || x == 1))) Argument (refl, λ x f. below-two (λ a. truth (a == 1 || a == 1) ≡ a) x f refl refl)) s t q h
twins-fit Xor s t q h = on-bools (Twins Xor) (one (Fits Bool Bool (λ x. truth (not (x == x)))) (Number 0) (refl, lit< tt, λ x f. below-two (λ a. truth (not (a == a)) ≡ 0) x f refl refl)) s t q h
twins-fit Implies s t q h = on-bools (Twins Implies) (one (Fits Bool Bool (λ x. truth (x == 0 || x == 1))) (Number 1) (refl, lit< tt, λ x f. below-two (λ a. truth (a == 0 || a == 1) ≡ 1) x f refl refl)) s t q h
twins-fit Equal s t q h = on-alike (Twins Equal) (λ s. one (Fits s Bool (λ x. truth (x == x))) (Truth true) (refl, λ x f. ap truth (eq-eqb x x refl))) s t q h
twins-fit BvAnd s t q h = on-wide (Twins BvAnd) (λ w. one (Fits (Bits w) (Bits w) (λ x. bit_and x x)) Argument (refl, λ x f. and_self x)) s t q h
twins-fit BvOr s t q h = on-wide (Twins BvOr) (λ w. one (Fits (Bits w) (Bits w) (λ x. bit_or x x)) Argument (refl, λ x f. or_self x)) s t q h
twins-fit BvXor s t q h = on-wide (Twins BvXor) (λ w. one (Fits (Bits w) (Bits w) (λ x. bit_xor x x)) (Number 0) (refl, pow_pos w, λ x f. xor_self x)) s t q h
twins-fit BvNand s t q h = on-wide (Twins BvNand) (λ w. one (Fits (Bits w) (Bits w) (λ x. 2 ^ w - 1 - bit_and x x)) Complement (refl, λ x f. ap (λ y. 2 ^ w - 1 - y) (and_self x))) s t q h
twins-fit BvNor s t q h = on-wide (Twins BvNor) (λ w. one (Fits (Bits w) (Bits w) (λ x. 2 ^ w - 1 - bit_or x x)) Complement (refl, λ x f. ap (λ y. 2 ^ w - 1 - y) (or_self x))) s t q h
twins-fit BvXnor s t q h = on-wide (Twins BvXnor) (λ w. one (Fits (Bits w) (Bits w) (λ x. 2 ^ w - 1 - bit_xor x x)) (Number (2 ^ w - 1)) (refl, last w, λ x f. ap (λ y. 2 ^ w - 1 - y) (xor_self x) ∙ above w)) s t q h
twins-fit BvSub s t q h = on-wide (Twins BvSub) (λ w. one (Fits (Bits w) (Bits w) (λ x. (x + 2 ^ w - x) % 2 ^ w)) (Number 0) (refl, pow_pos w, λ x f. ap (λ n. n % 2 ^ w) (let z : x + 2 ^ w - x ≡ 2 ^ w = omega arith in z) ∙ mod_self (2 ^ w))) s t q h
twins-fit BvUrem s t q h = on-wide (Twins BvUrem) (λ w. one (Fits (Bits w) (Bits w) (λ x. remainder x x)) (Number 0) (refl, pow_pos w, λ x f. rest-of-itself x)) s t q h
twins-fit BvUlt s t q h = on-compared (Twins BvUlt) (λ w. one (Fits (Bits w) Bool (λ x. truth (nat_lt x x))) (Truth false) (refl, λ x f. ap truth (less-itself x))) s t q h
twins-fit BvUle s t q h = on-compared (Twins BvUle) (λ w. one (Fits (Bits w) Bool (λ x. truth (nat_le x x))) (Truth true) (refl, λ x f. ap truth (least-itself x))) s t q h
twins-fit BvUgt s t q h = on-compared (Twins BvUgt) (λ w. one (Fits (Bits w) Bool (λ x. truth (nat_lt x x))) (Truth false) (refl, λ x f. ap truth (less-itself x))) s t q h
twins-fit BvUge s t q h = on-compared (Twins BvUge) (λ w. one (Fits (Bits w) Bool (λ x. truth (nat_le x x))) (Truth true) (refl, λ x f. ap truth (least-itself x))) s t q h
twins-fit BvSlt s t q h = on-compared (Twins BvSlt) (λ w. one (Fits (Bits w) Bool (λ x. truth (int_lt (signed w x) (signed w x)))) (Truth false) (refl, λ x f. ap truth (int-less-itself (signed w x)))) s t q h
twins-fit BvSle s t q h = on-compared (Twins BvSle) (λ w. one (Fits (Bits w) Bool (λ x. truth (int_le (signed w x) (signed w x)))) (Truth true) (refl, λ x f. ap truth (int-least-itself (signed w x)))) s t q h
twins-fit BvSgt s t q h = on-compared (Twins BvSgt) (λ w. one (Fits (Bits w) Bool (λ x. truth (int_lt (signed w x) (signed w x)))) (Truth false) (refl, λ x f. ap truth (int-less-itself (signed w x)))) s t q h
twins-fit BvSge s t q h = on-compared (Twins BvSge) (λ w. one (Fits (Bits w) Bool (λ x. truth (int_le (signed w x) (signed w x)))) (Truth true) (refl, λ x f. ap truth (int-least-itself (signed w x)))) s t q h
twins-fit _ s t q h = λ r e. cc

-- ---- an argument and its complement

abbrev Opposites : Op → Sort → Sort → Sort → Type 0
Opposites o s t q = IsLawful s → (r : Outcome) → of_opposites o s ≡ Some r → Fits s q (λ x. op_value o (s ∷ t ∷ []) (x ∷ (greatest s - x) ∷ [])) r

and-complement : (w x : ℕ) → x < 2 ^ w → bit_and x (2 ^ w - 1 - x) ≡ 0
and-complement w x f =
    let parts : bit_and (2 ^ w - 1 - x) x + bit_and x x ≡ x = and-not w x x f f in
    let whole : bit_and x x ≡ x = and_self x in
    and_comm x (2 ^ w - 1 - x) ∙ omega (arith, parts, whole)

or-complement : (w x : ℕ) → x < 2 ^ w → bit_or x (2 ^ w - 1 - x) ≡ 2 ^ w - 1
or-complement w x f = or_disjoint x (2 ^ w - 1 - x) (and-complement w x f) ∙ omega (arith, f)

xor-complement : (w x : ℕ) → x < 2 ^ w → bit_xor x (2 ^ w - 1 - x) ≡ 2 ^ w - 1
xor-complement w x f =
    ap (bit_xor x) (turned-all w x f) ∙ sym (xor_assoc x x (2 ^ w - 1)) ∙ ap (λ n. bit_xor n (2 ^ w - 1)) (xor_self x) ∙ xor_zero_l (2 ^ w - 1)

not-own : (w x : ℕ) → 1 ≤ w → x < 2 ^ w → (x == 2 ^ w - 1 - x) ≡ false
not-own w x h f = let twice = halves w h in ne_eqb x (2 ^ w - 1 - x) (λ e. omega (arith, e, twice, f))

pub opposites-fit : (o : Op) (s t q : Sort) → result_sort o (s ∷ t ∷ []) ≡ Some q → Opposites o s t q
opposites-fit And s t q h = on-bools (Opposites And) (λ l. one (Fits Bool Bool (λ x. truth (x == 1 && 1 - x == 1))) (Number 0) (refl, lit< tt, λ x f. below-two (λ a. truth (a == 1 && 1 - a == 1) ≡ 0) x f refl refl)) s t q h
opposites-fit Or s t q h = on-bools (Opposites Or) (λ l. one (Fits Bool Bool (λ x. truth (x == 1 || 1 - x == 1))) (Number 1) (refl, lit< tt, λ x f. below-two (λ a. truth (a == 1 || 1 - a == 1) ≡ 1) x f refl refl)) s t q h
opposites-fit Xor s t q h = on-bools (Opposites Xor) (λ l. one (Fits Bool Bool (λ x. truth (not (x == 1 - x)))) (Number 1) (refl, lit< tt, λ x f. below-two (λ a. truth (not (a == 1 - a)) ≡ 1) x f refl refl)) s t q h
opposites-fit Equal s t q h = on-alike (Opposites Equal) (λ s l. one (Fits s Bool (λ x. truth (x == greatest s - x))) (Truth false) (refl, λ x f. ap truth (not-own (width_of s) x l.0 f))) s t q h
opposites-fit BvAnd s t q h = on-wide (Opposites BvAnd) (λ w l. one (Fits (Bits w) (Bits w) (λ x. bit_and x (2 ^ w - 1 - x))) (Number 0) (refl, pow_pos w, λ x f. and-complement w x f)) s t q h
opposites-fit BvOr s t q h = on-wide (Opposites BvOr) (λ w l. one (Fits (Bits w) (Bits w) (λ x. bit_or x (2 ^ w - 1 - x))) (Number (2 ^ w - 1)) (refl, last w, λ x f. or-complement w x f)) s t q h
opposites-fit BvXor s t q h = on-wide (Opposites BvXor) (λ w l. one (Fits (Bits w) (Bits w) (λ x. bit_xor x (2 ^ w - 1 - x))) (Number (2 ^ w - 1)) (refl, last w, λ x f. xor-complement w x f)) s t q h
opposites-fit BvXnor s t q h = on-wide (Opposites BvXnor) (λ w l. one (Fits (Bits w) (Bits w) (λ x. 2 ^ w - 1 - bit_xor x (2 ^ w - 1 - x))) (Number 0) (refl, pow_pos w, λ x f. ap (λ y. 2 ^ w - 1 - y) (xor-complement w x f) ∙ level w)) s t q h
opposites-fit _ s t q h = λ l r e. cc

-- ---- one argument

on-one : (P : Sort → Sort → Type 0) (g : ℕ → Option Sort) → ((w : ℕ) (q : Sort) → g w ≡ Some q → P (Bits w) q) → (s q : Sort) → option_and_then g (one_width (s ∷ [])) ≡ Some q → P s q
on-one P g h Bool q e = cc
on-one P g h (Bits w) q e = h w q e

one-copy : (w k : ℕ) (q : Sort) → k ≡ 1 → bits_repeated k w ≡ Some q → Bits w ≡ q
one-copy w k q e h =
    let same : bits_of (1 * w) ≡ Some q = sym (ap (λ n. bits_repeated n w) e) ∙ h in
    ap Bits (let flat : w ≡ 1 * w = omega arith in flat) ∙ bits_same (1 * w) q same

no-more : (w k : ℕ) (q : Sort) → k ≡ 0 → bits_of (w + k) ≡ Some q → Bits w ≡ q
no-more w k q e h = ap Bits (let flat : w ≡ w + k = omega (arith, e) in flat) ∙ bits_same (w + k) q h

unturned : (w x : ℕ) → turned w x 0 ≡ x
unturned w x = ap (λ n. n + x % 1 * 2 ^ (w - 0)) (div-one x) ∙ ap (λ n. x + n * 2 ^ (w - 0)) (none-left x) ∙ (let flat : x + 0 * 2 ^ (w - 0) ≡ x = omega arith in flat)

turned-whole : (w x : ℕ) → x < 2 ^ w → turned w x w ≡ x
turned-whole w x f =
    ap (λ n. n + x % 2 ^ w * 2 ^ (w - w)) (div-eq_of_lt f) ∙ ap (λ n. 0 + n * 2 ^ (w - w)) (mod-eq_of_lt f)
    ∙ ap (λ k. 0 + x * 2 ^ k) (let none : w - w ≡ 0 = omega arith in none) ∙ (let flat : 0 + x * 1 ≡ x = omega arith in flat)

signed-itself : (w x : ℕ) → x < 2 ^ w → residue (signed w x) (2 ^ w) ≡ x
signed-itself w x f = go (is_negative w x)
  where
    go : (b : Truth_value) → residue (cond b (negsuc (2 ^ w - 1 - x)) (pos x)) (2 ^ w) ≡ x
    go true =
        let low : 2 ^ w - 1 - x < 2 ^ w = omega (arith, f) in
        ap (λ n. 2 ^ w - 1 - n) (mod-eq_of_lt low) ∙ complement_twice (2 ^ w) x f
    go false = mod-eq_of_lt f

-- all bits of a word
within-bits : (i j w : ℕ) (q : Sort) → bits_between i j w ≡ Some q → (i < w) × (Bits (i - j + 1) ≡ q)
within-bits i j w q h = go (nat_lt i w) (nat_le j i) refl h
  where
    go : (a b : Truth_value) → nat_lt i w ≡ a → cond (a && b) (Some (Bits (i - j + 1))) None ≡ Some q → (i < w) × (Bits (i - j + 1) ≡ q)
    go true true is e = (ltb-true i w is, some-same (Bits (i - j + 1)) q e)
    go true false is e = cc
    go false b is e = cc

bits-kept : (i j w x : ℕ) → j ≡ 0 → i + 1 ≡ w → x < 2 ^ w → x / 2 ^ j % 2 ^ (i - j + 1) ≡ x
bits-kept i j w x e f low =
    ap (λ k. x / 2 ^ k % 2 ^ (i - j + 1)) e ∙ ap (λ n. n % 2 ^ (i - j + 1)) (div-one x)
    ∙ ap (λ k. x % 2 ^ k) (let flat : i - j + 1 ≡ w = omega (arith, e, f) in flat) ∙ mod-eq_of_lt low

pub one-fits : (o : Op) (s q : Sort) → result_sort o (s ∷ []) ≡ Some q → (r : Outcome) → of_one o s ≡ Some r → Fits s q (λ x. op_value o (s ∷ []) (x ∷ [])) r
one-fits (Extract i j) s q h = on-one (λ s q. (r : Outcome) → cond (j == 0) (where_is (width_of s - 1) i Argument) None ≡ Some r → Fits s q (λ x. op_value (Extract i j) (s ∷ []) (x ∷ [])) r) (bits_between i j)
    (λ w q k r e. lowest w q k r (j == 0) refl e) s q h
  where
    lowest : (w : ℕ) (q : Sort) → bits_between i j w ≡ Some q → (r : Outcome) (b : Truth_value) → (j == 0) ≡ b → cond b (where_is (w - 1) i Argument) None ≡ Some r → Fits (Bits w) q (λ x. x / 2 ^ j % 2 ^ (i - j + 1)) r
    lowest w q k r true is e = where-is (Fits (Bits w) q (λ x. x / 2 ^ j % 2 ^ (i - j + 1))) (w - 1) i Argument (λ f.
        let parts = within-bits i j w q k in
        let low : i < w = parts.0 in
        let none : j ≡ 0 = eqb-true j 0 is in
        let last : i + 1 ≡ w = omega (arith, f, low) in
        (ap Bits (let flat : w ≡ i - j + 1 = omega (arith, none, last) in flat) ∙ parts.1, λ x small. bits-kept i j w x none last small)) r e
    lowest w q k r false is e = cc
one-fits (Repeat k) s q h = on-one (λ s q. (r : Outcome) → where_is 1 k Argument ≡ Some r → Fits s q (λ x. op_value (Repeat k) (s ∷ []) (x ∷ [])) r) (bits_repeated k)
    (λ w q j. where-is (Fits (Bits w) q (λ x. copies k w x)) 1 k Argument (λ e. (one-copy w k q e j, λ x f. ap (λ n. copies n w x) e ∙ omega arith))) s q h
one-fits (ZeroExtend k) s q h = on-one (λ s q. (r : Outcome) → where_is 0 k Argument ≡ Some r → Fits s q (λ x. x) r) (λ w. bits_of (w + k))
    (λ w q j. where-is (Fits (Bits w) q (λ x. x)) 0 k Argument (λ e. (no-more w k q e j, λ x f. refl))) s q h
one-fits (SignExtend k) s q h = on-one (λ s q. (r : Outcome) → where_is 0 k Argument ≡ Some r → Fits s q (λ x. op_value (SignExtend k) (s ∷ []) (x ∷ [])) r) (λ w. bits_of (w + k))
    (λ w q j. where-is (Fits (Bits w) q (λ x. residue (signed w x) (2 ^ (w + k)))) 0 k Argument
    (λ e. (no-more w k q e j, λ x f. ap (λ n. residue (signed w x) (2 ^ n)) (let flat : w + k ≡ w = omega (arith, e) in flat) ∙ signed-itself w x f))) s q h
one-fits (RotateLeft k) s q h = turned-left s q h
  where
    turned-left : (s q : Sort) → option_map Bits (one_width (s ∷ [])) ≡ Some q → (r : Outcome) → where_is 0 (k % width_of s) Argument ≡ Some r → Fits s q (λ x. op_value (RotateLeft k) (s ∷ []) (x ∷ [])) r
    turned-left Bool q e = cc
    turned-left (Bits w) q e = where-is (Fits (Bits w) q (λ x. turned w x (w - k % w))) 0 (k % w) Argument
        (λ none. (some-same (Bits w) q e, λ x f. ap (turned w x) (let all : w - k % w ≡ w = omega (arith, none) in all) ∙ turned-whole w x f))
one-fits (RotateRight k) s q h = turned-one s q h
  where
    turned-one : (s q : Sort) → option_map Bits (one_width (s ∷ [])) ≡ Some q → (r : Outcome) → where_is 0 (k % width_of s) Argument ≡ Some r → Fits s q (λ x. op_value (RotateRight k) (s ∷ []) (x ∷ [])) r
    turned-one Bool q e = cc
    turned-one (Bits w) q e = where-is (Fits (Bits w) q (λ x. turned w x (k % w))) 0 (k % w) Argument (λ none. (some-same (Bits w) q e, λ x f. ap (turned w x) none ∙ unturned w x))
one-fits _ s q h = λ r e. cc
