-- What the routine of divisions computes.
use Rattle.std.proofs.Common.{◌≡◌, ℕ, ◌+◌, ◌-◌, ◌*◌, ◌/◌, ◌%◌, ◌^◌, ◌≤◌, ◌<◌, ◌==◌, Bool, true, false, not, cond, List, [], ◌∷◌, ◌++◌, length, take, replicate, inl, inr, refl, sym, ap, ◌∙◌, subst, arith}
use Rattle.std.specs.Prelude.{reverse}
use Rattle.std.proofs.lemmas.Bool.{cases_eq, eq-eqb, ne_eqb, cond-true, cond-false}
use Rattle.std.proofs.lemmas.List.{length-append, length-take, length-map, length-reverse, length-replicate}
use Rattle.std.proofs.lemmas.Grind.{reverse_onto}
use Rattle.std.proofs.Math.Nat.{mod-eq_of_lt}
use Rattle.qv_words.specs.Op.{truth, quotient, remainder}
use Rattle.qv_words.specs.Gate.{Lit, Circuit, ◌>>=◌, neg, yes, no, lit_value}
use Rattle.qv_words.specs.Routine.{negs, sub, sel, divided}
use Rattle.qv_circuits_laws.specs.CircuitLaws.{number_of}
use Rattle.qv_circuits_laws.proofs.Evaluations.{Computes, done-computes, then-computes, weaker, together}
use Rattle.qv_circuits_laws.proofs.Adding.{double, add-computes, number-below, parts-of, truth-below}
use Rattle.qv_circuits_laws.proofs.Choosing.{sel-computes, sel-length, negs-number}
use Rattle.qv_circuits_laws.proofs.Multiplying.{number-take}
use Rattle.qv_circuits_laws.proofs.Places.{number-append, number-zeros}

-- bits from the highest down, behind a number
onto : (ℕ → Bool) → List Lit → ℕ → ℕ
onto v [] x = x
onto v (l ∷ ls) x = onto v ls (truth (lit_value v l) + 2 * x)

onto-append : (v : ℕ → Bool) (a b : List Lit) (x : ℕ) → onto v (a ++ b) x ≡ onto v b (onto v a x)
unfolding onto
onto-append v [] b x = refl
onto-append v (l ∷ ls) b x = onto-append v ls b (truth (lit_value v l) + 2 * x)

onto-reverse : (v : ℕ → Bool) (a : List Lit) → onto v (reverse a) 0 ≡ number_of v a
unfolding onto
onto-reverse v [] = refl
onto-reverse v (l ∷ ls) =
    ap (λ k. onto v k 0) (reverse_onto ls l []) ∙ onto-append v (reverse ls) (l ∷ []) 0
    ∙ ap (λ k. truth (lit_value v l) + 2 * k) (onto-reverse v ls)

onto-above : (v : ℕ → Bool) (a : List Lit) (x : ℕ) → x ≤ onto v a x
unfolding onto
onto-above v [] x = omega arith
onto-above v (l ∷ ls) x = omega (arith, onto-above v ls (truth (lit_value v l) + 2 * x))

-- a difference with its carry: where the carry is clear, the second number is the greater
abbrev DifferenceOf : (ℕ → Bool) → ℕ → ℕ → ℕ → List Lit × Lit → Type 0
DifferenceOf v w x y r = (length r.0 ≡ w) × (number_of v r.0 + 2 ^ w * truth (lit_value v r.1) + y ≡ x + 2 ^ w)

difference-computes : {v : ℕ → Bool} {n : ℕ} (a b : List Lit) → v 1 ≡ true → length a ≡ length b → Computes v n (sub a b) (DifferenceOf v (length a) (number_of v a) (number_of v b))
difference-computes {v} {n} a b one h =
    weaker (add-computes a (negs b) yes (h ∙ sym (length-map b neg))) (λ r hr.
    let carry : truth (lit_value v yes) ≡ 1 = ap truth one in
    let turned : number_of v (negs b) + number_of v b + 1 ≡ 2 ^ length a = negs-number v b ∙ ap (λ k. 2 ^ k) (sym h) in
    (hr.0, omega (arith, hr.1, carry, turned)))

-- a step: with the bit set the divisor y is taken from x, and else x is below it
abbrev StepAt : (y x : ℕ) → Bool → ℕ → Type 0
StepAt y x true n = n + y ≡ x
StepAt y x false n = (n ≡ x) × (x < y)

step-value : (y x d p q n : ℕ) (t : Bool) → q ≡ 2 * p → d + q * truth t + y ≡ x + q → d < q → y < p → x < y + p → n ≡ cond t (d % p) (x % p) → StepAt y x t n
step-value y x d p q n true twice whole low small fits is =
    let rest : d + y ≡ x = omega (arith, whole) in
    let same : n ≡ d = is ∙ mod-eq_of_lt (omega (arith, rest, fits)) in
    omega (arith, rest, same)
step-value y x d p q n false twice whole low small fits is =
    let below : x < y = omega (arith, whole, low) in
    (is ∙ mod-eq_of_lt (omega (arith, below, small)), below)

-- one step, and what comes behind it
step-then : {A : Type 0} {v : ℕ → Bool} {n : ℕ} {Q : A → Type 0} (b : List Lit) (a : Lit) (r : List Lit) → v 1 ≡ true → length r ≡ length b → truth (lit_value v a) + 2 * number_of v r < number_of v b + 2 ^ length b → (f : Lit → List Lit → Circuit A) → ((k : ℕ) (c : Lit) (next : List Lit) → length next ≡ length b → StepAt (number_of v b) (truth (lit_value v a) + 2 * number_of v r) (lit_value v c) (number_of v next) → Computes v k (f c next) Q) → Computes v n (sub (a ∷ r) (b ++ no ∷ []) >>= (λ d. sel d.1 (take (length b) d.0) (take (length b) (a ∷ r)) >>= (λ next. f d.1 next))) Q
step-then {A} {v} {n} {Q} b a r one h fits f then' =
    let w = length b in
    let y = number_of v b in
    let x = truth (lit_value v a) + 2 * number_of v r in
    let even : length (a ∷ r) ≡ length (b ++ no ∷ []) = omega (arith, h, length-append b (no ∷ [])) in
    let zero-bit : truth (lit_value v no) + 2 * 0 ≡ 0 = ap (λ t. truth (not t) + 2 * 0) one in
    let wide : number_of v (b ++ no ∷ []) ≡ y = number-append v b (no ∷ []) ∙ ap (λ k. y + 2 ^ w * k) zero-bit ∙ omega arith in
    let power : 2 ^ length (a ∷ r) ≡ 2 * 2 ^ w = double (length r) ∙ ap (λ k. 2 * 2 ^ k) h in
    then-computes (difference-computes (a ∷ r) (b ++ no ∷ []) one even) (λ i d hd.
    let whole : number_of v d.0 + 2 ^ length (a ∷ r) * truth (lit_value v d.1) + y ≡ x + 2 ^ length (a ∷ r) =
    ap (λ k. number_of v d.0 + 2 ^ length (a ∷ r) * truth (lit_value v d.1) + k) (sym wide) ∙ hd.1 in
    let low : number_of v d.0 < 2 ^ length (a ∷ r) = subst (λ (k : ℕ). number_of v d.0 < 2 ^ k) hd.0 (number-below v d.0) in
    let first : length (take w d.0) ≡ w = omega (arith, length-take w d.0, hd.0, h) in
    let second : length (take w (a ∷ r)) ≡ w = omega (arith, length-take w (a ∷ r), h) in
    let same : length (take w d.0) ≡ length (take w (a ∷ r)) = first ∙ sym second in
    then-computes (together (sel-length d.1 (take w d.0) (take w (a ∷ r)) same) (sel-computes d.1 (take w d.0) (take w (a ∷ r)) same)) (λ j next hn.
    let is : number_of v next ≡ cond (lit_value v d.1) (number_of v d.0 % 2 ^ w) (x % 2 ^ w) =
    hn.1 ∙ ap (λ k. cond (lit_value v d.1) k (number_of v (take w (a ∷ r)))) (number-take v w d.0) ∙ ap (λ k. cond (lit_value v d.1) (number_of v d.0 % 2 ^ w) k) (number-take v w (a ∷ r)) in
    then' j d.1 next (hn.0 ∙ first) (step-value y x (number_of v d.0) (2 ^ w) (2 ^ length (a ∷ r)) (number_of v next) (lit_value v d.1) power whole low (number-below v b) fits is)))

-- by some divisor: the quotient's and the remainder's equation stays
step-less : (y x n : ℕ) (t : Bool) → x < y + y → StepAt y x t n → n < y
step-less y x n true low s = omega (arith, low, s)
step-less y x n false low s = omega (arith, s.0, s.1)

step-total : (y x n q : ℕ) (t : Bool) → StepAt y x t n → (truth t + 2 * q) * y + n ≡ 2 * (q * y) + x
step-total y x n q true s = omega (arith, s)
step-total y x n q false s = omega (arith, s.0)

divided-some : {v : ℕ → Bool} {n : ℕ} (b as' q r : List Lit) → v 1 ≡ true → length r ≡ length b → number_of v r < number_of v b → Computes v n (divided b as' q r) (λ s. (number_of v s.0 * number_of v b + number_of v s.1 ≡ onto v as' (number_of v q * number_of v b + number_of v r)) × (number_of v s.1 < number_of v b))
unfolding divided onto
divided-some {v} {n} b [] q r one h low = done-computes (q, r) (refl, low)
divided-some {v} {n} b (a ∷ as') q r one h low =
    let y = number_of v b in
    let x = truth (lit_value v a) + 2 * number_of v r in
    let most = truth-below (lit_value v a) in
    let less : x < y + y = omega (arith, most, low) in
    step-then b a r one h (omega (arith, less, number-below v b)) (λ c next. divided b as' (c ∷ q) next) (λ k c next size step.
    weaker (divided-some b as' (c ∷ q) next one size (step-less y x (number_of v next) (lit_value v c) less step)) (λ s hs.
    let total : (truth (lit_value v c) + 2 * number_of v q) * y + number_of v next ≡ truth (lit_value v a) + 2 * (number_of v q * y + number_of v r) =
    step-total y x (number_of v next) (number_of v q) (lit_value v c) step ∙ omega arith in
    (hs.0 ∙ ap (onto v as') total, hs.1)))

-- by zero: each bit is set, and the remainder is the whole
step-one : (y x n : ℕ) (t : Bool) → y ≡ 0 → StepAt y x t n → truth t ≡ 1
step-one y x n true none s = refl
step-one y x n false none s = absurd (omega (arith, none, s.1))

step-same : (y x n : ℕ) (t : Bool) → y ≡ 0 → StepAt y x t n → n ≡ x
step-same y x n true none s = omega (arith, none, s)
step-same y x n false none s = s.0

divided-none : {v : ℕ → Bool} {n : ℕ} (b as' q r : List Lit) → v 1 ≡ true → length r ≡ length b → number_of v b ≡ 0 → onto v as' (number_of v r) < 2 ^ length b → Computes v n (divided b as' q r) (λ s. (number_of v s.0 + 1 ≡ (number_of v q + 1) * 2 ^ length as') × (number_of v s.1 ≡ onto v as' (number_of v r)))
unfolding divided onto
divided-none {v} {n} b [] q r one h none fits = done-computes (q, r) (omega arith, refl)
divided-none {v} {n} b (a ∷ as') q r one h none fits =
    let y = number_of v b in
    let x = truth (lit_value v a) + 2 * number_of v r in
    step-then b a r one h (omega (arith, fits, onto-above v as' x)) (λ c next. divided b as' (c ∷ q) next) (λ k c next size step.
    let same : number_of v next ≡ x = step-same y x (number_of v next) (lit_value v c) none step in
    let set : truth (lit_value v c) ≡ 1 = step-one y x (number_of v next) (lit_value v c) none step in
    weaker (divided-none b as' (c ∷ q) next one size none (subst (λ (k : ℕ). onto v as' k < 2 ^ length b) (sym same) fits)) (λ s hs.
    (hs.0 ∙ ap (λ k. (k + 2 * number_of v q + 1) * 2 ^ length as') set ∙ ones (number_of v q) (2 ^ length as') ∙ ap (λ k. (number_of v q + 1) * k) (sym (double (length as'))), hs.1 ∙ ap (onto v as') same)))
  where
    ones : (q p : ℕ) → (1 + 2 * q + 1) * p ≡ (q + 1) * (2 * p)
    ones q p = omega arith

-- the quotient and the remainder
abbrev pub Divides : (ℕ → Bool) → (w a b : ℕ) → List Lit × List Lit → Type 0
Divides v w a b s = (number_of v s.0 ≡ quotient w a b) × (number_of v s.1 ≡ remainder a b)

pub div-computes : {v : ℕ → Bool} {n : ℕ} (a b : List Lit) → v 1 ≡ true → length a ≡ length b → Computes v n (divided b (reverse a) [] (replicate (length a) no)) (Divides v (length a) (number_of v a) (number_of v b))
div-computes {v} {n} a b one h = elim (cases_eq (number_of v b) 0) [ inl none ↦ by-zero none | inr some ↦ by-some some ]
  where
    zeros : number_of v (replicate (length a) no) ≡ 0
    zeros = number-zeros v (length a) no (ap not one)

    size : length (replicate (length a) no) ≡ length b
    size = length-replicate (length a) no ∙ h

    by-zero : number_of v b ≡ 0 → Computes v n (divided b (reverse a) [] (replicate (length a) no)) (Divides v (length a) (number_of v a) (number_of v b))
    by-zero none =
        let all : onto v (reverse a) (number_of v (replicate (length a) no)) ≡ number_of v a = ap (onto v (reverse a)) zeros ∙ onto-reverse v a in
        let test : (number_of v b == 0) ≡ true = eq-eqb (number_of v b) 0 none in
        let fits : onto v (reverse a) (number_of v (replicate (length a) no)) < 2 ^ length b = subst (λ (k : ℕ). k < 2 ^ length b) (sym all) (subst (λ (k : ℕ). number_of v a < 2 ^ k) h (number-below v a)) in
        weaker (divided-none b (reverse a) [] (replicate (length a) no) one size none fits) (λ s hs.
        let ones : number_of v s.0 + 1 ≡ 2 ^ length a = hs.0 ∙ ap (λ k. (0 + 1) * 2 ^ k) (length-reverse a) ∙ omega arith in
        let less : number_of v s.0 ≡ 2 ^ length a - 1 = omega (arith, ones) in (
          less ∙ sym (cond-true (number_of v b == 0) (2 ^ length a - 1) (number_of v a / number_of v b) test),
          hs.1 ∙ all ∙ sym (cond-true (number_of v b == 0) (number_of v a) (number_of v a % number_of v b) test),
        ))

    by-some : (number_of v b ≡ 0 → ⊥) → Computes v n (divided b (reverse a) [] (replicate (length a) no)) (Divides v (length a) (number_of v a) (number_of v b))
    by-some some =
        let test : (number_of v b == 0) ≡ false = ne_eqb (number_of v b) 0 some in
        let low : number_of v (replicate (length a) no) < number_of v b = omega (arith, zeros, some) in
        weaker (divided-some b (reverse a) [] (replicate (length a) no) one size low) (λ s hs.
        let none : 0 * number_of v b + number_of v (replicate (length a) no) ≡ 0 = omega (arith, zeros) in
        let whole : number_of v s.0 * number_of v b + number_of v s.1 ≡ number_of v a = hs.0 ∙ ap (onto v (reverse a)) none ∙ onto-reverse v a in
        let parts = parts-of (number_of v b) (number_of v s.1) (number_of v s.0) (number_of v a) hs.1 (omega (arith, whole)) in (
          parts.1 ∙ sym (cond-false (number_of v b == 0) (2 ^ length a - 1) (number_of v a / number_of v b) test),
          parts.0 ∙ sym (cond-false (number_of v b == 0) (number_of v a) (number_of v a % number_of v b) test),
        ))
