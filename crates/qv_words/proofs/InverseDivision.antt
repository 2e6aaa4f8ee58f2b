-- The rows of quotients and remainders solve them.
use Rattle.std.proofs.Common.{◌≡◌, ℕ, zero, suc, ◌+◌, ◌-◌, ◌*◌, ◌/◌, ◌%◌, ◌^◌, ◌≤◌, ◌<◌, ◌==◌, Bool, true, false, cond, ◌⊎◌, inl, inr, Option, [], ◌∷◌, refl, sym, ap, ◌∙◌, subst, arith}
use Rattle.std.proofs.lemmas.Bool.{cases_lt, eqb-true, eqb-false, ne_eqb, cond-false}
use Rattle.std.proofs.lemmas.Nat.{mod_below, mul-le, le-div}
use Rattle.std.proofs.Math.Nat.{mod-eq_of_lt, mod-mod, add-mod_left, div-eq_of_lt, div_self, div-one, div-add-mod, mul-div-le, mul-div_right, lt-mul-div-succ, div-eq_of_lt-le}
use Rattle.qv_words.specs.declared.sort.Sort.TheVariants.{Bits}
use Rattle.qv_words.specs.declared.op.Op.TheVariants.{Equal, BvSub, BvMul, BvUdiv, BvUrem}
use Rattle.qv_words.specs.Sort.{IsLawful}
use Rattle.qv_words.specs.Op.{quotient, remainder}
use Rattle.qv_words.specs.Prenex.{binary, ite}
use Rattle.qv_words.specs.Inverse.{Solves, number, other_term, target_term}
use Rattle.qv_words.proofs.Powers.{pow_le}
use Rattle.qv_words.proofs.TwosComplement.{mod_once}
use Rattle.qv_words.proofs.InverseCases.{OfRows, of_pairs}
use Rattle.qv_words.proofs.InverseRows.{of_target, of_other_target, of_divisor}
use Rattle.qv_words.proofs.InverseSolves.{solves}

pub some_above : (s : ℕ) → (s == 0) ≡ false → 0 < s
some_above zero e = absurd (cc)
some_above (suc s) e = omega arith

not_none : (s : ℕ) → 0 < s → (s == 0) ≡ false
not_none s h = ne_eqb s 0 (λ e. omega (arith, e))

quotient_by : (w a b : ℕ) → 0 < b → quotient w a b ≡ a / b
quotient_by w a b h = cond-false (b == 0) (2 ^ w - 1) (a / b) (not_none b h)

quotient_first : (w x s t : ℕ) → x < 2 ^ w → quotient w x s ≡ t → quotient w (s * t % 2 ^ w) s ≡ t
quotient_first w x s t fx = go (s == 0) refl
  where
    go : (b : Bool) → (s == 0) ≡ b → cond b (2 ^ w - 1) (x / s) ≡ t → cond b (2 ^ w - 1) (s * t % 2 ^ w / s) ≡ t
    go true e is = is
    go false e is =
        let most : s * t ≤ x = subst (λ (n : ℕ). s * n ≤ x) is (mul-div-le x s) in
        let whole : s * t % 2 ^ w ≡ s * t = mod-eq_of_lt (omega arith) in
        ap (λ n. n / s) whole ∙ mul-div_right t (some_above s e)

-- the greatest value, that a quotient by 0 has
quotient_of_all : (w s : ℕ) → 1 ≤ w → s < 2 ^ w → quotient w s (quotient w s (2 ^ w - 1)) ≡ 2 ^ w - 1
quotient_of_all w s lo fs =
    let two : 2 ^ 1 ≤ 2 ^ w = pow_le 1 w lo in
    let some : 0 < 2 ^ w - 1 = omega (arith, two) in
    ap (quotient w s) (quotient_by w s (2 ^ w - 1) some) ∙ go some (cases_lt s (2 ^ w - 1))
  where
    go : 0 < 2 ^ w - 1 → (s < 2 ^ w - 1) ⊎ (2 ^ w - 1 ≤ s) → quotient w s (s / (2 ^ w - 1)) ≡ 2 ^ w - 1
    go some (inl less) = ap (quotient w s) (div-eq_of_lt less)
    go some (inr more) =
        let all : 2 ^ w - 1 ≡ s = omega arith in
        let one : s / (2 ^ w - 1) ≡ 1 = ap (λ n. s / n) all ∙ div_self (omega arith) in
        ap (quotient w s) one ∙ div-one s ∙ sym all

-- a quotient that isn't 0, and one that is
quotient_again : (s x t : ℕ) → 0 < x → 0 < t → s / x ≡ t → (0 < s / t) × (s / (s / t) ≡ t)
quotient_again s x t px pt is =
    let low : x * t ≤ s = subst (λ (n : ℕ). x * n ≤ s) is (mul-div-le s x) in
    let high : s < x * (t + 1) = subst (λ (n : ℕ). s < x * (n + 1)) is (lt-mul-div-succ s px) in
    let above : x ≤ s / t = le-div x s t pt low in
    let inside : t * (s / t) ≤ s = mul-div-le s t in
    let more : x * (t + 1) ≤ s / t * (t + 1) = mul-le x (t + 1) (s / t) (t + 1) above (omega arith) in
    let outside : s < (t + 1) * (s / t) = omega (arith, high, more) in
    (omega arith, div-eq_of_lt-le (s / t) inside outside)

quotient_second : (w x s t : ℕ) → 1 ≤ w → x < 2 ^ w → s < 2 ^ w → quotient w s x ≡ t → quotient w s (quotient w s t) ≡ t
quotient_second w x s t lo fx fs = go (x == 0) refl
  where
    by_value : 0 < x → s / x ≡ t → (t ≡ 0) ⊎ (0 < t) → quotient w s (quotient w s t) ≡ t
    by_value px is (inl none) =
        let high : s < x * (0 + 1) = subst (λ (n : ℕ). s < x * (n + 1)) (is ∙ none) (lt-mul-div-succ s px) in
        let some : 0 < 2 ^ w - 1 = omega arith in
        let all : quotient w s t ≡ 2 ^ w - 1 = ap (quotient w s) none in
        ap (quotient w s) all ∙ quotient_by w s (2 ^ w - 1) some ∙ div-eq_of_lt (omega (arith, high)) ∙ sym none
    by_value px is (inr some) =
        let again = quotient_again s x t px some is in
        ap (quotient w s) (quotient_by w s t some) ∙ quotient_by w s (s / t) again.0 ∙ again.1

    none_or_some : (n : ℕ) → (n ≡ 0) ⊎ (0 < n)
    none_or_some zero = inl refl
    none_or_some (suc n) = inr (omega arith)

    go : (b : Bool) → (x == 0) ≡ b → cond b (2 ^ w - 1) (s / x) ≡ t → quotient w s (quotient w s t) ≡ t
    go true e is = ap (λ n. quotient w s (quotient w s n)) (sym is) ∙ quotient_of_all w s lo fs ∙ is
    go false e is = by_value (some_above x e) is (none_or_some t)

pub udiv_solved : OfRows (Solves BvUdiv) BvUdiv
udiv_solved =
    of_pairs (Solves BvUdiv) BvUdiv (λ w v. refl) (λ w r value l m e. tt)
    (λ w value l. solves BvUdiv 0 (Bits w ∷ Bits w ∷ []) value _ w (λ s t. s * t % 2 ^ w) (of_other_target BvMul w refl l) (λ s t x literal fx fs is. quotient_first w x s t fx is))
    (λ w value l. solves BvUdiv 1 (Bits w ∷ Bits w ∷ []) value _ w (λ s t. quotient w s t) (of_other_target BvUdiv w refl l) (λ s t x literal fx fs is. quotient_second w x s t l.0 fx fs is))

remainder_first : (x s t : ℕ) → remainder x s ≡ t → remainder t s ≡ t
remainder_first x s t = go (s == 0)
  where
    go : (b : Bool) → cond b x (x % s) ≡ t → cond b t (t % s) ≡ t
    go true is = refl
    go false is = ap (λ n. n % s) (sym is) ∙ mod-mod x s ∙ is

-- the remainder by what is above the remainder
remainder_again : (s x t : ℕ) → 0 < x → s % x ≡ t → (s ≡ t → ⊥) → (t < s) × (s % (s - t) ≡ t)
remainder_again s x t px is other =
    let parts : x * (s / x) + t ≡ s = ap (λ n. x * (s / x) + n) (sym is) ∙ div-add-mod s x in
    let rest : t < x = subst (λ (n : ℕ). n < x) is (mod_below s x px) in
    let above : x ≤ s - t = at_least (s / x) parts in
    let whole : s ≡ (s - t) + t = omega arith in
    (omega arith, ap (λ n. n % (s - t)) whole ∙ add-mod_left (s - t) t ∙ mod-eq_of_lt (omega arith))
  where
    at_least : (q : ℕ) → x * q + t ≡ s → x ≤ s - t
    at_least zero e = absurd (other (omega (arith, e)))
    at_least (suc q) e = omega (arith, e)

remainder_second : (m x s t : ℕ) → s < m → remainder s x ≡ t → remainder s (cond (s == t) 0 ((s + m - t) % m)) ≡ t
remainder_second m x s t fs is = go (s == t) refl (x == 0) refl is
  where
    go : (b : Bool) → (s == t) ≡ b → (d : Bool) → (x == 0) ≡ d → cond d s (s % x) ≡ t → remainder s (cond b 0 ((s + m - t) % m)) ≡ t
    go true e d f is = eqb-true s t e
    go false e true f is = absurd (eqb-false s t e is)
    go false e false f is =
        let again = remainder_again s x t (some_above x f) is (eqb-false s t e) in
        let below : t < s = again.0 in
        let once : (s + m - t) % m ≡ s - t = mod_once (s + m - t) m (omega arith) (omega arith) ∙ omega arith in
        ap (remainder s) once ∙ cond-false (s - t == 0) s (s % (s - t)) (not_none (s - t) (omega arith)) ∙ again.1

pub urem_first : (w : ℕ) (value : Option ℕ) → IsLawful (Bits w) → Solves BvUrem 0 (Bits w ∷ Bits w ∷ []) value (target_term (Bits w))
urem_first w value l = solves BvUrem 0 (Bits w ∷ Bits w ∷ []) value _ w (λ s t. t) (of_target w l) (λ s t x literal fx fs is. remainder_first x s t is)

pub urem_second : (w : ℕ) (value : Option ℕ) → IsLawful (Bits w) → Solves BvUrem 1 (Bits w ∷ Bits w ∷ []) value (ite (binary Equal (other_term (Bits w)) (target_term (Bits w))) (number w 0) (binary BvSub (other_term (Bits w)) (target_term (Bits w))))
urem_second w value l =
    solves BvUrem 1 (Bits w ∷ Bits w ∷ []) value _ w (λ s t. cond (s == t) 0 ((s + 2 ^ w - t) % 2 ^ w)) (of_divisor w 0 (omega arith) l) (λ s t x literal fx fs is. remainder_second (2 ^ w) x s t fs is)
