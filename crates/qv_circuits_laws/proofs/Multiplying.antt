-- What the routine of products computes.
use Rattle.std.proofs.Common.{◌≡◌, ℕ, zero, suc, ◌+◌, ◌*◌, ◌/◌, ◌%◌, ◌^◌, ◌≤◌, ◌<◌, ◌&&◌, Bool, true, false, not, List, [], ◌∷◌, length, take, replicate, refl, sym, ap, ◌∙◌, arith}
use Rattle.std.proofs.lemmas.List.{length-take}
use Rattle.std.proofs.lemmas.Nat.{pow_pos, mod_below, mod-mul-add}
use Rattle.std.proofs.Math.Nat.{mod-eq_of_lt, div-add-mod, mod-add-mod, add-mul-mod_self_right}
use Rattle.qv_words.specs.Op.{truth}
use Rattle.qv_words.specs.Gate.{Lit, AndGate, no, lit_value, and}
use Rattle.qv_words.specs.Routine.{sum_of, each, rows, mul}
use Rattle.qv_circuits_laws.specs.CircuitLaws.{number_of}
use Rattle.qv_circuits_laws.proofs.Evaluations.{Computes, done-computes, then-computes, gate-computes, weaker}
use Rattle.qv_circuits_laws.proofs.Adding.{double, add-computes, sum-parts, number-below, truth-below}

-- a remainder by twice a number, from one by the number
mod-double : (t a p : ℕ) → t ≤ 1 → 0 < p → (t + 2 * a) % (2 * p) ≡ t + 2 * (a % p)
mod-double t a p low some =
    let whole : p * (a / p) + a % p ≡ a = div-add-mod a p in
    let split : t + 2 * a ≡ a / p * (2 * p) + (t + 2 * (a % p)) = parts t a p (a / p) (a % p) whole in
    ap (λ n. n % (2 * p)) split ∙ mod-mul-add (a / p) (2 * p) (t + 2 * (a % p)) (omega (arith, mod_below a p some, low))
  where
    parts : (t a p q r : ℕ) → p * q + r ≡ a → t + 2 * a ≡ q * (2 * p) + (t + 2 * r)
    parts t a p q r e = omega (arith, e)

-- the number of the lowest bits
pub number-take : (v : ℕ → Bool) (i : ℕ) (a : List Lit) → number_of v (take i a) ≡ number_of v a % 2 ^ i
number-take v zero a = omega arith
number-take v (suc i) [] = sym (mod-eq_of_lt (pow_pos (suc i)))
number-take v (suc i) (l ∷ ls) =
    ap (λ k. truth (lit_value v l) + 2 * k) (number-take v i ls)
    ∙ sym (ap (λ p. (truth (lit_value v l) + 2 * number_of v ls) % p) (double i) ∙ mod-double (truth (lit_value v l)) (number_of v ls) (2 ^ i) (truth-below (lit_value v l)) (pow_pos i))

-- a row: each bit with one bit
and-bit : (a b : Bool) → truth (a && b) ≡ truth b * truth a
and-bit true true = refl
and-bit true false = refl
and-bit false true = refl
and-bit false false = refl

abbrev RowOf : (ℕ → Bool) → ℕ → ℕ → List Lit → Type 0
RowOf v w n r = (length r ≡ w) × (number_of v r ≡ n)

pub row-computes : {v : ℕ → Bool} {n : ℕ} (k : ℕ) (a : List Lit) (b : Lit) → length a ≡ k → Computes v n (each and a (replicate k b)) (RowOf v k (truth (lit_value v b) * number_of v a))
unfolding each
row-computes {v} {n} zero [] b h = done-computes [] (refl, omega arith)
row-computes {v} {n} (suc k) [] b h = absurd (omega (arith, h))
row-computes {v} {n} zero (a ∷ as') b h = absurd (omega (arith, h))
row-computes {v} {n} (suc k) (a ∷ as') b h =
    then-computes (gate-computes (AndGate a b)) (λ i x hx.
    then-computes (row-computes k as' b (omega (arith, h))) (λ j r hr.
    let tb = truth (lit_value v b) in
    let bit : truth (lit_value v x) ≡ tb * truth (lit_value v a) = ap truth hx ∙ and-bit (lit_value v a) (lit_value v b) in
    done-computes (x ∷ r) (ap suc hr.0, ap (λ m. m + 2 * number_of v r) bit ∙ ap (λ m. tb * truth (lit_value v a) + 2 * m) hr.1 ∙ sides tb (truth (lit_value v a)) (number_of v as'))))
  where
    sides : (b a r : ℕ) → b * a + 2 * (b * r) ≡ b * (a + 2 * r)
    sides b a r = omega arith

-- a part that is a remainder may be the whole
whole-part : (h t a x p : ℕ) → (h + t * (a % p) + x) % p ≡ (h + t * a + x) % p
whole-part h t a x p =
    let whole : p * (a / p) + a % p ≡ a = div-add-mod a p in
    let split : h + t * a + x ≡ h + t * (a % p) + x + t * (a / p) * p = ap (λ n. h + t * n + x) (sym whole) ∙ parts h t (a % p) x p (a / p) in
    sym (ap (λ n. n % p) split ∙ add-mul-mod_self_right (h + t * (a % p) + x) (t * (a / p)) p)
  where
    parts : (h t r x p q : ℕ) → h + t * (p * q + r) + x ≡ h + t * r + x + t * q * p
    parts h t r x p q = omega arith

-- a sum of one length, without a carry
no-value : (v : ℕ → Bool) → v 1 ≡ true → truth (lit_value v no) ≡ 0
no-value v h = ap (λ b. truth (not b)) h

pub sum-computes : {v : ℕ → Bool} {n : ℕ} (a b : List Lit) → v 1 ≡ true → length a ≡ length b → Computes v n (sum_of a b no) (RowOf v (length a) ((number_of v a + number_of v b) % 2 ^ length a))
sum-computes {v} {n} a b one h =
    then-computes (add-computes a b no h) (λ i s hs.
    let total : number_of v a + number_of v b + truth (lit_value v no) ≡ number_of v a + number_of v b = ap (λ k. number_of v a + number_of v b + k) (no-value v one) ∙ omega arith in
    done-computes s.0 (hs.0, (sum-parts v (length a) (number_of v a + number_of v b + truth (lit_value v no)) s hs).0 ∙ ap (λ k. k % 2 ^ length a) total))

rows-computes : {v : ℕ → Bool} {n : ℕ} (a acc b : List Lit) → v 1 ≡ true → length acc ≤ length a → Computes v n (rows a acc b) (λ r. number_of v r ≡ (number_of v acc + 2 * (number_of v a * number_of v b)) % 2 ^ length acc)
unfolding rows
rows-computes {v} {n} a acc [] one h =
    let none : number_of v acc + 2 * (number_of v a * 0) ≡ number_of v acc = omega arith in
    done-computes acc (sym (ap (λ k. k % 2 ^ length acc) none ∙ mod-eq_of_lt (number-below v acc)))
rows-computes {v} {n} a [] (b ∷ bs) one h = done-computes [] (omega arith)
rows-computes {v} {n} a (low ∷ high) (b ∷ bs) one h =
    let size = length high in
    let p = 2 ^ size in
    let tb = truth (lit_value v b) in
    let na = number_of v a in
    let nh = number_of v high in
    let nb = number_of v bs in
    let tl = truth (lit_value v low) in
    let cut : length (take size a) ≡ size = omega (arith, length-take size a, h) in
    then-computes (row-computes size (take size a) b cut) (λ i row hrow.
    then-computes (sum-computes high row one (sym hrow.0)) (λ j s hs.
    then-computes (rows-computes a s bs one (omega (arith, hs.0, h))) (λ k r hr.
    let row-number : number_of v row ≡ tb * (na % p) = hrow.1 ∙ ap (λ m. tb * m) (number-take v size a) in
    let sum-number : number_of v s ≡ (nh + tb * (na % p)) % p = hs.1 ∙ ap (λ m. (nh + m) % p) row-number in
    let rest : number_of v r ≡ (nh + tb * na + 2 * (na * nb)) % p =
    hr ∙ ap (λ m. (number_of v s + 2 * (na * nb)) % 2 ^ m) hs.0 ∙ ap (λ m. (m + 2 * (na * nb)) % p) sum-number
    ∙ mod-add-mod (nh + tb * (na % p)) p (2 * (na * nb)) ∙ whole-part nh tb na (2 * (na * nb)) p in
    let total : tl + 2 * nh + 2 * (na * (tb + 2 * nb)) ≡ tl + 2 * (nh + tb * na + 2 * (na * nb)) = sides tl nh na tb nb in
    done-computes (low ∷ r) (ap (λ m. tl + 2 * m) rest
    ∙ sym (ap (λ m. m % 2 ^ suc size) total ∙ ap (λ q. (tl + 2 * (nh + tb * na + 2 * (na * nb))) % q) (double size) ∙ mod-double tl (nh + tb * na + 2 * (na * nb)) p (truth-below (lit_value v low)) (pow_pos size))))))
  where
    sides : (l h a t b : ℕ) → l + 2 * h + 2 * (a * (t + 2 * b)) ≡ l + 2 * (h + t * a + 2 * (a * b))
    sides l h a t b = omega arith

pub mul-computes : {v : ℕ → Bool} {n : ℕ} (a b : List Lit) → v 1 ≡ true → Computes v n (mul a b) (λ r. number_of v r ≡ number_of v a * number_of v b % 2 ^ length a)
mul-computes {v} {n} a [] one =
    let none : number_of v a * 0 ≡ 0 = omega arith in
    done-computes [] (sym (ap (λ k. k % 2 ^ length a) none ∙ mod-eq_of_lt (pow_pos (length a))))
mul-computes {v} {n} a (b ∷ bs) one =
    then-computes (row-computes (length a) a b refl) (λ i acc hacc.
    weaker (rows-computes a acc bs one (omega (arith, hacc.0))) (λ r hr.
    hr ∙ ap (λ m. (number_of v acc + 2 * (number_of v a * number_of v bs)) % 2 ^ m) hacc.0
    ∙ ap (λ m. (m + 2 * (number_of v a * number_of v bs)) % 2 ^ length a) hacc.1
    ∙ ap (λ m. m % 2 ^ length a) (sides (truth (lit_value v b)) (number_of v a) (number_of v bs))))
  where
    sides : (t a b : ℕ) → t * a + 2 * (a * b) ≡ a * (t + 2 * b)
    sides t a b = omega arith
