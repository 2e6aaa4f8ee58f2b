-- The row of products with a literal solves them.
use Rattle.std.proofs.Common.{◌≡◌, ℕ, zero, suc, ◌+◌, ◌-◌, ◌*◌, ◌/◌, ◌%◌, ◌^◌, ◌≤◌, ◌<◌, ◌==◌, nat_le, Bool, true, false, cond, inl, inr, Option, Some, None, [], ◌∷◌, refl, sym, ap, ◌∙◌, subst, arith, le_refl, lit<}
use Rattle.std.specs.Prelude.{IfSome}
use Rattle.std.proofs.lemmas.Bool.{cases_lt, eqb-true, eqb-false, lt-leb, cond-false}
use Rattle.std.proofs.lemmas.Nat.{pow_pos, pow-add, mod_below, shl-shr, shr-shr, mul-mod, mul-mod_first, mul-mod_second, mul-le}
use Rattle.std.proofs.Math.Nat.{mod-eq_of_lt, add-mul-mod_self_left, div-add-mod, mul_assoc, mul_comm, mul-one, pow-suc}
use Rattle.qv_words.specs.declared.sort.Sort.TheVariants.{Bits}
use Rattle.qv_words.specs.declared.op.Op.TheVariants.{BvMul, BvLshr}
use Rattle.qv_words.specs.Sort.{IsLawful}
use Rattle.qv_words.specs.Op.{shifted_right}
use Rattle.qv_words.specs.Prenex.{binary}
use Rattle.qv_words.specs.Inverse.{Solves, number, target_term, product_row, trailing_zeros, newton, inverse_modulo}
use Rattle.qv_words.proofs.Powers.{mod-mod_pow, pow_le}
use Rattle.qv_words.proofs.InverseCases.{OfRows, of_pairs}
use Rattle.qv_words.proofs.InverseRows.{of_product, trailing-le, inverse-lt}
use Rattle.qv_words.proofs.InverseShifts.{shifted_multiple}
use Rattle.qv_words.proofs.InverseSolves.{solves}
use Rattle.qv_words.proofs.InverseDivision.{some_above}

-- 1 is itself modulo a power of 2 that isn't 1
one_low : (k : ℕ) → 1 ≤ k → 1 % 2 ^ k ≡ 1
one_low k h = mod-eq_of_lt (omega (arith, pow_le 1 k h))

-- a number that is 1 modulo a power of 2 is 1 modulo a smaller one
one_lower : (x j k : ℕ) → 1 ≤ j → j ≤ k → x % 2 ^ k ≡ 1 → x % 2 ^ j ≡ 1
one_lower x j k some h e = sym (mod-mod_pow x j k h) ∙ ap (λ n. n % 2 ^ j) e ∙ one_low j some

-- a factor modulo a greater power of 2
factor_low : (a b j w : ℕ) → j ≤ w → a * (b % 2 ^ w) % 2 ^ j ≡ a * b % 2 ^ j
factor_low a b j w h = sym (mul-mod_second a (b % 2 ^ w) (2 ^ j)) ∙ ap (λ n. a * n % 2 ^ j) (mod-mod_pow b j w h) ∙ mul-mod_second a b (2 ^ j)

factor_first : (a b j w : ℕ) → j ≤ w → a % 2 ^ w * b % 2 ^ j ≡ a * b % 2 ^ j
factor_first a b j w h = sym (mul-mod_first (a % 2 ^ w) b (2 ^ j)) ∙ ap (λ n. n * b % 2 ^ j) (mod-mod_pow a j w h) ∙ mul-mod_first a b (2 ^ j)

squares : (h q g u : ℕ) → h * h ≡ g * u → h * q * (h * q) ≡ g * (u * (q * q))
squares h q g u e = apart h q ∙ ap (λ z. z * (q * q)) e ∙ mul_assoc g u (q * q)
  where
    apart : (a b : ℕ) → a * b * (a * b) ≡ a * a * (b * b)
    apart a b = omega arith

-- one more than d and than n, where n + d and d * d are multiples of g: their product is 1 modulo g
ones_product : (d n g u v : ℕ) → n + d ≡ g * v → d * d ≡ g * u → 1 % g ≡ 1 → (d + 1) * (n + 1) % g ≡ 1
ones_product d n g u v whole square one =
    let known : (d + 1) * (n + 1) + g * u ≡ 1 + g * (v * (1 + d)) =
    ap (λ z. (d + 1) * (n + 1) + z) (sym square) ∙ multiplied d n ∙ ap (λ z. 1 + z * (1 + d)) whole ∙ ap (λ z. 1 + z) (mul_assoc g v (1 + d)) in
    sym (add-mul-mod_self_left ((d + 1) * (n + 1)) g u) ∙ ap (λ z. z % g) known ∙ add-mul-mod_self_left 1 g (v * (1 + d)) ∙ one
  where
    multiplied : (a b : ℕ) → (a + 1) * (b + 1) + a * a ≡ 1 + (b + a) * (1 + a)
    multiplied a b = omega arith

-- e is 1 modulo h, where h * h and m are multiples of g: then e * (2 + m - e) is 1 modulo g
step_value : (m g h e u v : ℕ) → e < m → e % h ≡ 1 → h * h ≡ g * u → m ≡ g * v → 1 % g ≡ 1 → e * (2 + m - e) % g ≡ 1
step_value m g h e u v below low square whole one =
    let parts : e ≡ h * (e / h) + 1 = sym (div-add-mod e h) ∙ ap (λ z. h * (e / h) + z) low in
    by_digits (h * (e / h)) parts (squares h (e / h) g u square)
  where
    by_digits : (d : ℕ) → e ≡ d + 1 → d * d ≡ g * (u * (e / h * (e / h))) → e * (2 + m - e) % g ≡ 1
    by_digits d parts square =
        let other : 2 + m - e ≡ m - d + 1 = omega arith in
        let sum : m - d + d ≡ g * v = omega arith in
        ap (λ z. z * (2 + m - e) % g) parts ∙ ap (λ z. (d + 1) * z % g) other ∙ ones_product d (m - d) g (u * (e / h * (e / h))) v sum square one

-- a step of Newton's method doubles the digits that are right
newton_step : (w j k a x : ℕ) → 1 ≤ j → j ≤ w → 1 ≤ k → k ≤ w → j ≤ k + k → a * x % 2 ^ k ≡ 1 → a * (x * (2 + 2 ^ w - a * x % 2 ^ w) % 2 ^ w) % 2 ^ j ≡ 1
newton_step w j k a x some inside lo hi double known = go (a * x % 2 ^ w) refl
  where
    go : (e : ℕ) → a * x % 2 ^ w ≡ e → a * (x * (2 + 2 ^ w - e) % 2 ^ w) % 2 ^ j ≡ 1
    go e is =
        let below : e < 2 ^ w = subst (λ (z : ℕ). z < 2 ^ w) is (mod_below (a * x) (2 ^ w) (pow_pos w)) in
        let low : e % 2 ^ k ≡ 1 = ap (λ z. z % 2 ^ k) (sym is) ∙ mod-mod_pow (a * x) k w hi ∙ known in
        let square : 2 ^ k * 2 ^ k ≡ 2 ^ j * 2 ^ (k + k - j) = sym (pow-add 2 k k) ∙ ap (λ z. 2 ^ z) (omega arith) ∙ pow-add 2 j (k + k - j) in
        let whole : 2 ^ w ≡ 2 ^ j * 2 ^ (w - j) = ap (λ z. 2 ^ z) (omega arith) ∙ pow-add 2 j (w - j) in
        factor_low a (x * (2 + 2 ^ w - e)) j w inside
        ∙ ap (λ z. z % 2 ^ j) (sym (mul_assoc a x (2 + 2 ^ w - e)))
        ∙ sym (factor_first (a * x) (2 + 2 ^ w - e) j w inside)
        ∙ ap (λ z. z * (2 + 2 ^ w - e) % 2 ^ j) is
        ∙ step_value (2 ^ w) (2 ^ j) (2 ^ k) e (2 ^ (k + k - j)) (2 ^ (w - j)) below low square whole (one_low j some)

twice_as_many : (k n p : ℕ) → p ≡ 2 ^ n * 2 → k * p ≡ (k + k) * 2 ^ n
twice_as_many k n p e = ap (λ z. k * z) e ∙ omega arith

-- n steps make k right digits k * 2^n, at most all
newton_right : (n w j k a x : ℕ) → 1 ≤ j → j ≤ w → 1 ≤ k → k ≤ w → j ≤ k * 2 ^ n → a * x % 2 ^ k ≡ 1 → a * newton n (2 ^ w) a x % 2 ^ j ≡ 1
newton_right zero w j k a x some inside lo hi enough known = one_lower (a * x) j k some (omega arith) known
newton_right (suc n) w j k a x some inside lo hi enough known =
    let next : ℕ = x * (2 + 2 ^ w - a * x % 2 ^ w) % 2 ^ w in
    elim (cases_lt (k + k) w) [
      | inl less ↦
          newton_right n w j (k + k) a next some inside (omega arith) (omega (arith, less)) (subst (λ (z : ℕ). j ≤ z) (twice_as_many k n (2 ^ suc n) (pow-suc 2 n)) enough) (newton_step w (k + k) k a x (omega arith) (omega (arith, less)) lo hi (omega arith) known)
      | inr more ↦
          newton_right n w j w a next some inside (omega arith) (omega arith) (lt_of_width n) (newton_step w w k a x (omega arith) (omega arith) lo hi more known)
    ]
  where
    lt_of_width : (i : ℕ) → j ≤ w * 2 ^ i
    lt_of_width i = omega (arith, inside, mul-le w 1 w (2 ^ i) (omega arith) (omega (arith, pow_pos i)))

-- an odd number's square is 1 modulo 4
odd_square : (a : ℕ) → a % 2 ≡ 1 → a * a % 4 ≡ 1
odd_square a odd = mul-mod a a 4 ∙ small (a % 4) (mod_below a 4 (lit< tt)) (omega arith)
  where
    small : (r : ℕ) → r < 4 → r % 2 ≡ 1 → r * r % 4 ≡ 1
    small zero h e = absurd (omega arith)
    small (suc zero) h e = refl
    small (suc (suc zero)) h e = absurd (omega arith)
    small (suc (suc (suc zero))) h e = refl
    small (suc (suc (suc (suc r)))) h e = absurd (omega arith)

-- a function gives the inverses of odd numbers
abbrev pub Inverts : (ℕ → ℕ → ℕ) → Type 0
Inverts inverse = (w a : ℕ) → 1 ≤ w → w ≤ 128 → a % 2 ≡ 1 → a * inverse w a % 2 ^ w ≡ 1

-- six steps are enough
pub inverse_right : Inverts (λ w a. newton 6 (2 ^ w) a (a % 2 ^ w))
inverse_right w a lo hi odd = elim (cases_lt w 2) [
  | inl less ↦
      let one : w ≤ 1 = omega (arith, less) in
      let known : a * (a % 2 ^ w) % 2 ^ 1 ≡ 1 = factor_low a a 1 w lo ∙ one_lower (a * a) 1 2 (omega arith) (omega arith) (odd_square a odd) in
      search (arith, newton_right, le_refl)
  | inr more ↦
      let two : 1 ≤ 2 = omega arith in
      let known : a * (a % 2 ^ w) % 2 ^ 2 ≡ 1 = factor_low a a 2 w more ∙ odd_square a odd in
      search (arith, newton_right, le_refl)
]

-- a number that isn't 0 is an odd one with zeros behind
abbrev IsOddPart : (k n c : ℕ) → Type 0
IsOddPart k n c = (c < k) × (n / 2 ^ c % 2 ≡ 1) × (n / 2 ^ c * 2 ^ c ≡ n)

pub odd_part : (k n : ℕ) → 0 < n → n < 2 ^ k → IsOddPart k n (trailing_zeros k n)
odd_part zero n some fits = absurd (omega arith)
odd_part (suc k) n some fits = go (n % 2 == 0) refl (odd_part k (n / 2))
  where
    go : (b : Bool) → (n % 2 == 0) ≡ b → (0 < n / 2 → n / 2 < 2 ^ k → IsOddPart k (n / 2) (trailing_zeros k (n / 2))) → IsOddPart (suc k) n (cond b (suc (trailing_zeros k (n / 2))) 0)
    go true e rest =
        let even : n % 2 ≡ 0 = eqb-true (n % 2) 0 e in
        let c : ℕ = trailing_zeros k (n / 2) in
        let half = rest (omega arith) (omega (arith, pow-suc 2 k)) in
        let first : suc c ≡ 1 + c = omega arith in
        let same : n / 2 ^ suc c ≡ n / 2 / 2 ^ c = ap (λ z. n / 2 ^ z) first ∙ sym (shr-shr n 1 c) in
        let power : 2 ^ suc c ≡ 2 ^ c * 2 = ap (λ z. 2 ^ z) (omega arith) ∙ pow-add 2 c 1 in
        let back : n / 2 / 2 ^ c * 2 ^ suc c ≡ n = ap (λ z. n / 2 / 2 ^ c * z) power ∙ sym (mul_assoc (n / 2 / 2 ^ c) (2 ^ c) 2) ∙ ap (λ z. z * 2) half.2 ∙ omega (arith, even) in
        (omega (arith, half.0), ap (λ z. z % 2) same ∙ half.1, ap (λ z. z * 2 ^ suc c) same ∙ back)
    go false e rest =
        let odd : n % 2 ≡ 0 → ⊥ = eqb-false (n % 2) 0 e in
        let whole : n / 1 ≡ n = omega arith in
        (omega arith, ap (λ z. z % 2) whole ∙ one_of (n % 2) (mod_below n 2 (lit< tt)) odd, omega arith)
      where
        one_of : (r : ℕ) → r < 2 → (r ≡ 0 → ⊥) → r ≡ 1
        one_of r h f = omega (arith, h, f)

turn : (u i a p : ℕ) → u * i * (a * p) ≡ u * p * (a * i)
turn u i a p = omega arith

-- the target over the zeros of s, times the inverse of the odd part
product_value : Inverts inverse_modulo → (w s x t : ℕ) → 1 ≤ w → w ≤ 128 → 0 < s → s < 2 ^ w → x * s % 2 ^ w ≡ t → shifted_right w t (trailing_zeros w s) * inverse_modulo w (s / 2 ^ trailing_zeros w s) % 2 ^ w * s % 2 ^ w ≡ t
product_value right w s x t lo hi some fits is = go (trailing_zeros w s) (odd_part w s some fits)
  where
    go : (c : ℕ) → IsOddPart w s c → shifted_right w t c * inverse_modulo w (s / 2 ^ c) % 2 ^ w * s % 2 ^ w ≡ t
    go c parts = by_inverse (s / 2 ^ c) (inverse_modulo w (s / 2 ^ c)) parts.2 (right w (s / 2 ^ c) lo hi parts.1)
      where
        by_inverse : (a i : ℕ) → a * 2 ^ c ≡ s → a * i % 2 ^ w ≡ 1 → shifted_right w t c * i % 2 ^ w * s % 2 ^ w ≡ t
        by_inverse a i whole inverse =
            let u : ℕ = x * a % 2 ^ (w - c) in
            let target : u * 2 ^ c ≡ t = sym (shifted_multiple w (x * a) c (omega (arith, parts.0))) ∙ ap (λ z. z % 2 ^ w) (mul_assoc x a (2 ^ c) ∙ ap (λ z. x * z) whole) ∙ is in
            let below : t < 2 ^ w = subst (λ (z : ℕ). z < 2 ^ w) is (mod_below (x * s) (2 ^ w) (pow_pos w)) in
            let shifted : shifted_right w t c ≡ u =
            cond-false (nat_le w c) 0 (t / 2 ^ c) (lt-leb w c parts.0) ∙ ap (λ z. z / 2 ^ c) (sym target) ∙ shl-shr u c in
            let order : u * i * s ≡ t * (a * i) = ap (λ z. u * i * z) (sym whole) ∙ turn u i a (2 ^ c) ∙ ap (λ z. z * (a * i)) target in
            ap (λ z. z * i % 2 ^ w * s % 2 ^ w) shifted ∙ mul-mod_first (u * i) s (2 ^ w) ∙ ap (λ z. z % 2 ^ w) order
            ∙ sym (mul-mod_second t (a * i) (2 ^ w)) ∙ ap (λ z. t * z % 2 ^ w) inverse ∙ ap (λ z. z % 2 ^ w) (mul-one t) ∙ mod-eq_of_lt below

product_first : Inverts inverse_modulo → (w : ℕ) (value : Option ℕ) → IsLawful (Bits w) → IfSome (product_row w (target_term (Bits w)) value) (Solves BvMul 0 (Bits w ∷ Bits w ∷ []) value)
product_first right w None l = tt
product_first right w (Some n) l = go (n == 0) refl
  where
    c : ℕ
    c = trailing_zeros w n

    i : ℕ
    i = inverse_modulo w (n / 2 ^ c)

    go : (b : Bool) → (n == 0) ≡ b → IfSome (cond b None (Some (binary BvMul (binary BvLshr (target_term (Bits w)) (number w c)) (number w i)))) (Solves BvMul 0 (Bits w ∷ Bits w ∷ []) (Some n))
    go true e = tt
    go false e =
        solves BvMul 0 (Bits w ∷ Bits w ∷ []) (Some n) _ w (λ s t. shifted_right w t c * i % 2 ^ w) (of_product w c i l (trailing-le w n) (inverse-lt w (n / 2 ^ c)))
        (λ s t x literal fx fs is.
        ap (λ z. shifted_right w t c * i % 2 ^ w * z % 2 ^ w) (sym literal)
        ∙ product_value right w n x t l.0 l.1 (some_above n e) (subst (λ (z : ℕ). z < 2 ^ w) (sym literal) fs) (ap (λ z. x * z % 2 ^ w) literal ∙ is))

product_second : Inverts inverse_modulo → (w : ℕ) (value : Option ℕ) → IsLawful (Bits w) → IfSome (product_row w (target_term (Bits w)) value) (Solves BvMul 1 (Bits w ∷ Bits w ∷ []) value)
product_second right w None l = tt
product_second right w (Some n) l = go (n == 0) refl
  where
    c : ℕ
    c = trailing_zeros w n

    i : ℕ
    i = inverse_modulo w (n / 2 ^ c)

    go : (b : Bool) → (n == 0) ≡ b → IfSome (cond b None (Some (binary BvMul (binary BvLshr (target_term (Bits w)) (number w c)) (number w i)))) (Solves BvMul 1 (Bits w ∷ Bits w ∷ []) (Some n))
    go true e = tt
    go false e =
        solves BvMul 1 (Bits w ∷ Bits w ∷ []) (Some n) _ w (λ s t. shifted_right w t c * i % 2 ^ w) (of_product w c i l (trailing-le w n) (inverse-lt w (n / 2 ^ c)))
        (λ s t x literal fx fs is.
        ap (λ z. z % 2 ^ w) (mul_comm s (shifted_right w t c * i % 2 ^ w))
        ∙ ap (λ z. shifted_right w t c * i % 2 ^ w * z % 2 ^ w) (sym literal)
        ∙ product_value right w n x t l.0 l.1 (some_above n e) (subst (λ (z : ℕ). z < 2 ^ w) (sym literal) fs) (ap (λ z. x * z % 2 ^ w) literal ∙ ap (λ z. z % 2 ^ w) (mul_comm x s) ∙ is))

pub mul_solved : Inverts inverse_modulo → OfRows (Solves BvMul) BvMul
mul_solved right = of_pairs (Solves BvMul) BvMul (λ w v. refl) (λ w r value l m e. tt) (product_first right) (product_second right)
