-- What the routines of choices, comparisons and differences compute.
use Rattle.std.proofs.Common.{◌≡◌, ℕ, suc, ◌+◌, ◌-◌, ◌*◌, ◌%◌, ◌^◌, ◌≤◌, ◌<◌, ◌&&◌, ◌||◌, Bool, true, false, not, cond, nat_le, nat_lt, List, [], ◌∷◌, length, inl, inr, refl, sym, ap, ◌∙◌, subst, arith}
use Rattle.std.proofs.lemmas.Bool.{cases_lt, le-leb, lt-leb, lt-ltb, le-ltb}
use Rattle.std.proofs.lemmas.List.{length-map}
use Rattle.qv_words.specs.Op.{truth}
use Rattle.qv_words.specs.Gate.{Lit, MuxGate, MajGate, neg, yes, lit_value}
use Rattle.qv_words.specs.Routine.{negs, sub, sel, carry}
use Rattle.qv_circuits_laws.specs.CircuitLaws.{number_of}
use Rattle.qv_words.proofs.TwosComplement.{leb_same}
use Rattle.qv_circuits_laws.proofs.Gates.{neg-value}
use Rattle.qv_circuits_laws.proofs.Evaluations.{Computes, done-computes, then-computes, gate-computes, weaker}
use Rattle.qv_circuits_laws.proofs.Adding.{double, add-computes, sum-parts, truth-below}

-- a choice, bit by bit
choice-bit : (k p q : Bool) (a b : ℕ) → truth (cond k p q) + 2 * cond k a b ≡ cond k (truth p + 2 * a) (truth q + 2 * b)
choice-bit true p q a b = refl
choice-bit false p q a b = refl

either : (k : Bool) (x : ℕ) → x ≡ cond k x x
either true x = refl
either false x = refl

pub sel-computes : {v : ℕ → Bool} {n : ℕ} (c : Lit) (a b : List Lit) → length a ≡ length b → Computes v n (sel c a b) (λ r. number_of v r ≡ cond (lit_value v c) (number_of v a) (number_of v b))
unfolding sel
sel-computes {v} {n} c [] [] h = done-computes [] (either (lit_value v c) (number_of v []))
sel-computes {v} {n} c [] (b ∷ bs) h = absurd (omega (arith, h))
sel-computes {v} {n} c (a ∷ as') [] h = absurd (omega (arith, h))
sel-computes {v} {n} c (a ∷ as') (b ∷ bs) h =
    let same : length as' ≡ length bs = omega (arith, h) in
    then-computes (gate-computes (MuxGate c a b)) (λ i x hx.
    then-computes (sel-computes c as' bs same) (λ j r hr.
    done-computes (x ∷ r) (ap (λ k. truth k + 2 * number_of v r) hx ∙ ap (λ k. truth (cond (lit_value v c) (lit_value v a) (lit_value v b)) + 2 * k) hr
    ∙ choice-bit (lit_value v c) (lit_value v a) (lit_value v b) (number_of v as') (number_of v bs))))

-- a choice has as many bits as the lists
pub sel-length : {v : ℕ → Bool} {n : ℕ} (c : Lit) (a b : List Lit) → length a ≡ length b → Computes v n (sel c a b) (λ r. length r ≡ length a)
unfolding sel
sel-length {v} {n} c [] [] h = done-computes [] refl
sel-length {v} {n} c [] (b ∷ bs) h = absurd (omega (arith, h))
sel-length {v} {n} c (a ∷ as') [] h = absurd (omega (arith, h))
sel-length {v} {n} c (a ∷ as') (b ∷ bs) h =
    let same : length as' ≡ length bs = omega (arith, h) in
    then-computes (gate-computes (MuxGate c a b)) (λ i x hx.
    then-computes (sel-length c as' bs same) (λ j r hr.
    done-computes (x ∷ r) (ap suc hr)))

-- one bit of a comparison: whether b is at most a, or less where c is false
carry-table : (a b c : Bool) → truth b + (1 - truth c) + 2 * truth ((a && not b) || (a && c) || (not b && c)) ≤ truth a + 2
carry-table true true true = omega arith
carry-table true true false = omega arith
carry-table true false true = omega arith
carry-table true false false = omega arith
carry-table false true true = omega arith
carry-table false true false = omega arith
carry-table false false true = omega arith
carry-table false false false = omega arith

carry-table-2 : (a b c : Bool) → truth a < truth b + (1 - truth c) + 2 * truth ((a && not b) || (a && c) || (not b && c))
carry-table-2 true true true = omega arith
carry-table-2 true true false = omega arith
carry-table-2 true false true = omega arith
carry-table-2 true false false = omega arith
carry-table-2 false true true = omega arith
carry-table-2 false true false = omega arith
carry-table-2 false false true = omega arith
carry-table-2 false false false = omega arith

-- the comparison of numbers by their lowest bits and the others
compare-step : (ta tb tc tk a b : ℕ) → tk ≤ 1 → tb + (1 - tc) + 2 * tk ≤ ta + 2 → ta < tb + (1 - tc) + 2 * tk → nat_le (b + (1 - tk)) a ≡ nat_le (tb + 2 * b + (1 - tc)) (ta + 2 * a)
compare-step ta tb tc tk a b most over under =
    leb_same (b + (1 - tk)) a (tb + 2 * b + (1 - tc)) (ta + 2 * a) (λ h. omega (arith, h, over, under, most)) (λ h. omega (arith, h, over, under, most))

pub carry-computes : {v : ℕ → Bool} {n : ℕ} (a b : List Lit) (c : Lit) → length a ≡ length b → Computes v n (carry a b c) (λ r. lit_value v r ≡ nat_le (number_of v b + (1 - truth (lit_value v c))) (number_of v a))
unfolding carry
carry-computes {v} {n} [] [] c h = done-computes c (last (lit_value v c))
  where
    last : (k : Bool) → k ≡ nat_le (0 + (1 - truth k)) 0
    last true = refl
    last false = refl
carry-computes {v} {n} [] (b ∷ bs) c h = absurd (omega (arith, h))
carry-computes {v} {n} (a ∷ as') [] c h = absurd (omega (arith, h))
carry-computes {v} {n} (a ∷ as') (b ∷ bs) c h =
    let same : length as' ≡ length bs = omega (arith, h) in
    then-computes (gate-computes (MajGate a (neg b) c)) (λ i k hk.
    weaker (carry-computes as' bs k same) (λ r hr.
    let la = lit_value v a in
    let lb = lit_value v b in
    let lc = lit_value v c in
    let value : lit_value v k ≡ ((la && not lb) || (la && lc) || (not lb && lc)) = hk ∙ ap (λ x. (la && x) || (la && lc) || (x && lc)) (neg-value v b) in
    let tk = truth (lit_value v k) in
    let over : truth lb + (1 - truth lc) + 2 * tk ≤ truth la + 2 = subst (λ (x : Bool). truth lb + (1 - truth lc) + 2 * truth x ≤ truth la + 2) (sym value) (carry-table la lb lc) in
    let under : truth la < truth lb + (1 - truth lc) + 2 * tk = subst (λ (x : Bool). truth la < truth lb + (1 - truth lc) + 2 * truth x) (sym value) (carry-table-2 la lb lc) in
    hr ∙ compare-step (truth la) (truth lb) (truth lc) tk (number_of v as') (number_of v bs) (truth-below (lit_value v k)) over under))

pub not-less : (a b : ℕ) → not (nat_le (b + 0) a) ≡ nat_lt a b
not-less a b = elim (cases_lt a b) [
  | inl less ↦ ap not (lt-leb (b + 0) a (omega (arith, less))) ∙ sym (lt-ltb a b less)
  | inr more ↦ ap not (le-leb (b + 0) a (omega (arith, more))) ∙ sym (le-ltb a b more)
]

-- differences
not-truth : (b : Bool) → truth (not b) + truth b ≡ 1
not-truth true = refl
not-truth false = refl

pub negs-number : (v : ℕ → Bool) (a : List Lit) → number_of v (negs a) + number_of v a + 1 ≡ 2 ^ length a
negs-number v [] = refl
negs-number v (l ∷ ls) =
    let bit : truth (lit_value v (neg l)) + truth (lit_value v l) ≡ 1 = ap (λ b. truth b + truth (lit_value v l)) (neg-value v l) ∙ not-truth (lit_value v l) in
    omega (arith, bit, double (length ls), negs-number v ls)

pub sub-computes : {v : ℕ → Bool} {n : ℕ} (a b : List Lit) → v 1 ≡ true → length a ≡ length b → Computes v n (sub a b) (λ r. number_of v r.0 ≡ (number_of v a + 2 ^ length a - number_of v b) % 2 ^ length a)
sub-computes {v} {n} a b one h =
    let longer : length a ≡ length (negs b) = h ∙ sym (length-map b neg) in
    weaker (add-computes a (negs b) yes longer) (λ r hr.
    let total : number_of v a + number_of v (negs b) + truth (lit_value v yes) ≡ number_of v a + 2 ^ length a - number_of v b =
    ap (λ k. number_of v a + number_of v (negs b) + truth k) one ∙ (
    let whole = negs-number v b in
    let power : 2 ^ length a ≡ 2 ^ length b = ap (λ k. 2 ^ k) h in
    omega (arith, whole, power)
    ) in
    (sum-parts v (length a) (number_of v a + number_of v (negs b) + truth (lit_value v yes)) r hr).0 ∙ ap (λ k. k % 2 ^ length a) total)
